use Rattle.std.proofs.Common.{◌≡◌, ◌&&◌, not, ℕ, take}
use Rattle.rtl_body_facts.specs.Reading.{is_in}
use Rattle.rtl_latches.specs.Parts.{told, both, only_left, where_so, left_at}
use Rattle.rtl_latches.proofs.choosing.push_inner.Given as goal

abbrev pub invariant-loop-left : goal.invariant-loop-left
invariant-loop-left l =
    (n : ℕ) → told n l.part ≡ both (told n l.initial.part)
    (only_left (where_so (is_in n l.some && not (is_in n l.inner.assigned.items)) (left_at n (take l.left-index l.lefts))))
