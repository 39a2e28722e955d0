-- The number that digits write.
use Rattle.std.proofs.Common.{◌≡◌, ℕ, ◌+◌, ◌-◌, ◌*◌, ◌≤◌, ◌<◌, Bool, true, false, cond, List, [], ◌∷◌, length, get_or, sym, ap, ◌∙◌, arith}
use Rattle.std.specs.Char.{is_ascii_digit}
use Rattle.vhdl_lexer.specs.Literals.{value_after}

-- more digits never write less
pub value_after-grows : (n : ℕ) (text : List ℕ) → n ≤ value_after n text
value_after-grows n [] = omega arith
value_after-grows n (b ∷ text) = by_test (is_ascii_digit b) (value_after-grows (10 * n + (b - 48)) text) (value_after-grows n text)
  where
    by_test : (t : Bool) → 10 * n + (b - 48) ≤ value_after (10 * n + (b - 48)) text → n ≤ value_after n text → n ≤ cond t (value_after (10 * n + (b - 48)) text) (value_after n text)
    by_test true digit none = omega (arith, digit)
    by_test false digit none = none

-- a digit takes the number above the greatest: the whole is above it
pub value_after-above : (most n total : ℕ) (text : List ℕ) → 1 ≤ length text → is_ascii_digit (get_or text 0 0) ≡ true → value_after n text ≡ total → most < 10 * n + (get_or text 0 0 - 48) → most < total
value_after-above most n total [] some d e above = absurd (omega (arith, some))
value_after-above most n total (b ∷ text) some d e above =
    let is : value_after (10 * n + (b - 48)) text ≡ total = ap (λ t. cond t (value_after (10 * n + (b - 48)) text) (value_after n text)) (sym d) ∙ e in
    omega (arith, above, is, value_after-grows (10 * n + (b - 48)) text)
