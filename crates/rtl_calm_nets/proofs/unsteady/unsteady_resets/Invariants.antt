use Rattle.std.proofs.Common.{◌≡◌, ◌<◌, ◌↔◌, ℕ, false, IsTrue, length, get_or}
use Rattle.rtl_model.specs.simulation.Accepted.{HasUnsteadyReset}
use Rattle.rtl_net.specs.Core.{core}
use Rattle.rtl_calm_nets.proofs.unsteady.unsteady_resets.Given as goal

abbrev pub invariant-loop-process : goal.invariant-loop-process
invariant-loop-process l = record {
  so_many : length l.unsteady.items ≡ l.process;
  so_far : (p : ℕ) → p < l.process → IsTrue (get_or l.unsteady.items p false) ↔ HasUnsteadyReset (core l.net) p;
}
