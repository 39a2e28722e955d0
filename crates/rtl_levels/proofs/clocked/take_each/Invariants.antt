use Rattle.std.proofs.Common.{◌≡◌, ℕ, ◌<◌, false, get_or}
use Rattle.std.specs.Prelude.{⊤}
use Rattle.rtl_net.specs.Core.{core}
use Rattle.rtl_levels.specs.Kept.{IsStateOf, entries_of}
use Rattle.rtl_levels.specs.States.{Advances}
use Rattle.rtl_levels.specs.Steps.{SomeTakeOver}
use Rattle.rtl_levels.proofs.clocked.take_each.Given as goal

abbrev pub invariant-loop-process : goal.invariant-loop-process
invariant-loop-process l = record {
  taken : SomeTakeOver (core l.net) l.initial.marked.items l.marked.items (entries_of l.runs) l.initial.state.values.items l.state.values.items;
  off : (k : ℕ) → k < l.process-index → get_or l.marked.items (get_or l.processes k 0) false ≡ false;
  state : IsStateOf (core l.net) l.schedule l.state;
  advances : Advances l.schedule.readers (λ n. ⊤) l.initial.state l.state;
}
