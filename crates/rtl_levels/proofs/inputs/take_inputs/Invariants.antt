use Rattle.std.proofs.Common.{◌≡◌, ℕ, drop}
use Rattle.std.specs.Prelude.{⊤}
use Rattle.rtl_model.specs.simulation.Cycle.{with_changes}
use Rattle.rtl_kernel.specs.kernel.Simulation.{changes_of}
use Rattle.rtl_kernel.specs.wakes.Woken.{wakers_of}
use Rattle.rtl_levels.specs.Marks.{IsGiven, Marks}
use Rattle.rtl_levels.specs.States.{Advances}
use Rattle.rtl_levels.proofs.inputs.take_inputs.Given as goal

abbrev pub invariant-loop-net : goal.invariant-loop-net
invariant-loop-net l = record {
  rest : (m : ℕ) → with_changes (drop l.net-index (changes_of l.changes)) l.state.values.items m ≡ with_changes (changes_of l.changes) l.initial.state.values.items m;
  woken : Marks (wakers_of l.schedule.clocked) (IsGiven (changes_of l.changes)) l.initial.state.values.items l.state.values.items l.initial.woken.items l.woken.items;
  advances : Advances l.schedule.readers (λ n. ⊤) l.initial.state l.state;
}
