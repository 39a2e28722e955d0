use Rattle.std.proofs.Common.{◌≡◌, ℕ, drop, length}
use Rattle.rtl_model.specs.simulation.Cycle.{with_changes}
use Rattle.rtl_kernel.specs.kernel.Simulation.{changes_of}
use Rattle.rtl_kernel.proofs.values.Values.set_all.Given as goal

abbrev pub invariant-loop-net : goal.invariant-loop-net
invariant-loop-net l = record {
  groups : l.self.groups ≡ l.initial.self.groups;
  before : l.self.before ≡ l.initial.self.before;
  as_many : length l.self.current ≡ length l.initial.self.current;
  rest : (m : ℕ) → with_changes (drop l.net-index (changes_of l.changes)) l.self.current m ≡ with_changes (changes_of l.changes) l.initial.self.current m;
}
