use Rattle.std.specs.Prelude.{map, take}
use Rattle.rtl_net.specs.Nets.{signal_view}
use Rattle.rtl_vcd.specs.Ready.{AreReady}
use Rattle.rtl_vcd.proofs.ready.runs_of.Given as goal

-- the names before this one are ready
abbrev pub invariant-loop-number : goal.invariant-loop-number
invariant-loop-number l = AreReady 0 (map signal_view (take l.number l.shown.signals.now)) l.runs.items
