use Rattle.std.proofs.Common.{◌≡◌, ◌<◌, ℕ, false}
use Rattle.rtl_model.specs.simulation.Netlist as m
use Rattle.rtl_net.specs.Core.{core}
use Rattle.rtl_check.specs.Bounds.{is_late}
use Rattle.rtl_check.proofs.reported.some_is_late.Given as goal

abbrev pub invariant-loop-process : goal.invariant-loop-process
invariant-loop-process l = (p : ℕ) → p < l.process → is_late (core l.net) (m.process (core l.net) p) ≡ false
