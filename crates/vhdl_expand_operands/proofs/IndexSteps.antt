-- The numbers of a range, as a loop comes to them.
use Rattle.std.proofs.Common.{◌≡◌, ℕ, ◌+◌, ◌<◌, ◌≤◌, List, [], ◌∷◌, ◌++◌, drop, sym, ap, ◌∙◌}
use Rattle.std.specs.Prelude.{ℤ}
use Rattle.std.proofs.lemmas.List.{append-nil, append_assoc}
use Rattle.vhdl_tree.specs.declared.operator.Direction.{Direction}
use Rattle.vhdl_expand_rules.specs.Integers.{numbers_from}
use Rattle.vhdl_expand_rules.specs.Parameters.{parameter}
use Rattle.vhdl_expand_rules.proofs.Parameters.{next-turn, no-turn}

-- one more number of a range
pub turn_added : (direction : Direction) (x : ℤ) (count k : ℕ) (made : List ℤ) (i : ℤ) → k < count → made ++ drop k (numbers_from direction x count) ≡ numbers_from direction x count
    → i ≡ parameter direction x k → (made ++ i ∷ []) ++ drop (k + 1) (numbers_from direction x count) ≡ numbers_from direction x count
turn_added direction x count k made i below so_far is =
    append_assoc made (i ∷ []) (drop (k + 1) (numbers_from direction x count))
    ∙ ap (λ xs. made ++ xs) (ap (λ j. j ∷ drop (k + 1) (numbers_from direction x count)) is ∙ sym (next-turn direction x count k below)) ∙ so_far

pub turns_done : (direction : Direction) (x : ℤ) (count k : ℕ) (made : List ℤ) → count ≤ k → made ++ drop k (numbers_from direction x count) ≡ numbers_from direction x count → made ≡ numbers_from direction x count
turns_done direction x count k made past so_far = sym (append-nil made) ∙ ap (λ xs. made ++ xs) (sym (no-turn direction x count k past)) ∙ so_far
