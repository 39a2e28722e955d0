use Rattle.byte_streams.specs.Written.{Goes}
use Rattle.rtlsim_listing.specs.NetText.{lines, process_line}
use Rattle.rtlsim_listing.proofs.nets.push_processes.Given as goal

-- the lines of the processes before this one went out
abbrev pub invariant-loop-number : goal.invariant-loop-number
invariant-loop-number g l = Goes (g.W.Sink.state l.initial.out) (g.W.Sink.state l.out) (lines (process_line l.net) l.number)
