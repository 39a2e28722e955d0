use Rattle.std.proofs.Common.{◌≡◌, ℕ, drop, length}
use Rattle.rtl_model.specs.simulation.Cycle.{with_changes}
use Rattle.rtl_kernel.specs.kernel.Simulation.{changes_of}
use Rattle.rtl_levels.proofs.inputs.set_inputs.Given as goal

abbrev pub invariant-loop-net : goal.invariant-loop-net
invariant-loop-net l = record {
  as_many : length l.values.items ≡ length l.initial.values.items;
  rest : (m : ℕ) → with_changes (drop l.net-index (changes_of l.changes)) l.values.items m ≡ with_changes (changes_of l.changes) l.initial.values.items m;
}
