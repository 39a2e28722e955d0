use Rattle.std.specs.Prelude.{flat_map, take}
use Rattle.byte_streams.specs.Written.{Goes}
use Rattle.rtlsim_listing.specs.CheckText.{fault_line}
use Rattle.rtlsim_listing.proofs.rejection.push_faults.Given as goal

-- the lines of the faults before this one went out
abbrev pub invariant-loop-fault : goal.invariant-loop-fault
invariant-loop-fault g l =
    Goes (g.W.Sink.state l.initial.out) (g.W.Sink.state l.out) (flat_map (fault_line l.net) (take l.fault-index l.faults))
