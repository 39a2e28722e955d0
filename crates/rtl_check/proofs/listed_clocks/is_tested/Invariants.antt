use Rattle.std.proofs.Common.{◌<◌, ℕ}
use Rattle.rtl_model.specs.simulation.Netlist.{IsClockedBy}
use Rattle.rtl_net.specs.Core.{core}
use Rattle.rtl_check.proofs.listed_clocks.is_tested.Given as goal

abbrev pub invariant-loop-process : goal.invariant-loop-process
invariant-loop-process l = (p : ℕ) → p < l.process → IsClockedBy (core l.net) p l.clock l.edge → ⊥
