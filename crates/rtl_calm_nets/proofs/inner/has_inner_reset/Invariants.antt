use Rattle.std.specs.Prelude.{ℕ, ◌<◌}
use Rattle.rtl_model.specs.simulation.Accepted.{IsInnerReset}
use Rattle.rtl_net.specs.Core.{core}
use Rattle.rtl_calm_nets.proofs.inner.has_inner_reset.Given as goal

abbrev pub invariant-loop-process : goal.invariant-loop-process
invariant-loop-process l = (p n : ℕ) → p < l.process → IsInnerReset (core l.net) p n → ⊥
