use Rattle.std.proofs.Common.{◌≡◌, ℕ, ◌<◌, false, map, slice_index_or}
use Rattle.rtl_eval.specs.Running.{met_by}
use Rattle.rtl_eval.specs.Seeing.{seen_of}
use Rattle.rtl_eval.proofs.statements.first_met.Given as goal

abbrev pub invariant-loop-at : goal.invariant-loop-at
invariant-loop-at l = (k : ℕ) → k < l.at → slice_index_or (map (met_by (seen_of l.seen)) l.branches) k false ≡ false
