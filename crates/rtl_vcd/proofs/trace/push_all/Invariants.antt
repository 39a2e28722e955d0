use Rattle.std.specs.Prelude.{map, take}
use Rattle.byte_streams.specs.Written.{Goes}
use Rattle.rtl_net.specs.Nets.{signal_view}
use Rattle.rtl_vcd_values.specs.Values.{numbered}
use Rattle.rtl_vcd.specs.Trace.{printed}
use Rattle.rtl_vcd.proofs.trace.push_all.Given as goal

-- the names before this one are printed
abbrev pub invariant-loop-number : goal.invariant-loop-number
invariant-loop-number g l =
    Goes (g.W.Sink.state l.initial.out) (g.W.Sink.state l.out) (numbered (λ k s. printed k s l.values) 0 (map signal_view (take l.number l.signals)))
