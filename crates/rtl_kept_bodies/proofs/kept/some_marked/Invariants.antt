use Rattle.std.proofs.Common.{◌≡◌, true, false}
use Rattle.std.specs.Prelude.{slice_index_or}
use Rattle.std.specs.List.{list_any, range_with_len}
use Rattle.rtl_kept_bodies.proofs.kept.some_marked.Given as goal

-- none so far is marked
abbrev pub invariant-loop-k : goal.invariant-loop-k
invariant-loop-k l = list_any (λ e. slice_index_or l.marks e true) (range_with_len l.first l.k) ≡ false
