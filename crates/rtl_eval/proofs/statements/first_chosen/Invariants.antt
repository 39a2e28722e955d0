use Rattle.std.proofs.Common.{◌≡◌, ℕ, ◌<◌, false, map, slice_index_or}
use Rattle.rtl_eval.specs.Evaluations.{codes_of}
use Rattle.rtl_eval.specs.Running.{chosen_by}
use Rattle.rtl_eval.proofs.statements.first_chosen.Given as goal

abbrev pub invariant-loop-at : goal.invariant-loop-at
invariant-loop-at l = (k : ℕ) → k < l.at → slice_index_or (map (chosen_by (codes_of l.value)) l.alternatives) k false ≡ false
