use Rattle.std.proofs.Common.{◌≡◌, ◌<◌, ℕ}
use Rattle.rtl_model.specs.simulation.Netlist as m
use Rattle.rtl_net.specs.Core.{core}
use Rattle.rtl_recheck.proofs.rules.has_no_mixed.Given as goal

abbrev pub invariant-loop-process : goal.invariant-loop-process
invariant-loop-process l = (p : ℕ) → p < l.process → (m.process (core l.net) p).kind ≡ m.Mixed → ⊥
