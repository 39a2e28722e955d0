-- Integers by their sizes and signs.
use Rattle.std.proofs.Common.{◌≡◌, ℕ, zero, suc, ◌+◌, ◌-◌, ◌*◌, ◌%◌, ◌<◌, ◌≤◌, Bool, true, false, refl, ap, ◌∙◌, arith}
use Rattle.std.specs.Prelude.{not, ◌+ℤ◌, int_rem}
use mathlib.Core.Bool.{beq}
use Rattle.std.proofs.lemmas.Int.{ints}
use Rattle.std.proofs.Math.Nat.{mod-eq_of_lt, add-mul-mod_self_right}
use Rattle.vhdl_numbers.specs.Operators.{int_mod}
use Rattle.vhdl_numbers.specs.Sizes.{with_sign}

zero_rest : (b : ℕ) → 0 < b → 0 % b ≡ 0
zero_rest zero lt = absurd (omega arith)
zero_rest (suc b) lt = omega arith

-- ---- remainders

pub rest_is : (s t : Bool) (a b : ℕ) → 0 < b → int_rem (with_sign s a) (with_sign t b) ≡ with_sign s (a % b)
rest_is s t a zero lt = absurd (omega arith)
rest_is false false a (suc b) lt = refl
rest_is false true a (suc b) lt = refl
rest_is true false zero (suc b) lt = rw (zero_rest (suc b) lt) refl
rest_is true true zero (suc b) lt = rw (zero_rest (suc b) lt) refl
rest_is true false (suc a) (suc b) lt = refl
rest_is true true (suc a) (suc b) lt = refl

sum_same : (s : Bool) (a b : ℕ) → with_sign s a +ℤ with_sign s b ≡ with_sign s (a + b)
sum_same false a b = refl
sum_same true a b = omega (arith, ints)

sum_other : (s : Bool) (a b : ℕ) → a ≤ b → with_sign s a +ℤ with_sign (not s) b ≡ with_sign (not s) (b - a)
sum_other false a b le = omega (arith, ints)
sum_other true a b le = omega (arith, ints)

once_more : (r b : ℕ) → r < b → (r + b) % b ≡ r
once_more r b lt = let one : r + b ≡ r + 1 * b = omega arith in ap (λ n. n % b) one ∙ add-mul-mod_self_right r 1 b ∙ mod-eq_of_lt lt

below : (a b : ℕ) → 0 < b → a % b < b
below a b lt = omega arith

pub modulo_same : (s : Bool) (a b : ℕ) → 0 < b → int_mod (with_sign s a) (with_sign s b) ≡ with_sign s (a % b)
modulo_same s a b lt =
    ap (λ z. int_rem (z +ℤ with_sign s b) (with_sign s b)) (rest_is s s a b lt)
    ∙ ap (λ z. int_rem z (with_sign s b)) (sum_same s (a % b) b)
    ∙ rest_is s s (a % b + b) b lt
    ∙ ap (with_sign s) (once_more (a % b) b (below a b lt))

pub modulo_other : (s : Bool) (a b : ℕ) → 0 < b → int_mod (with_sign s a) (with_sign (not s) b) ≡ with_sign (not s) ((b - a % b) % b)
modulo_other s a b lt =
    let less = below a b lt in
    ap (λ z. int_rem (z +ℤ with_sign (not s) b) (with_sign (not s) b)) (rest_is s (not s) a b lt)
    ∙ ap (λ z. int_rem z (with_sign (not s) b)) (sum_other s (a % b) b (omega arith))
    ∙ rest_is (not s) (not s) (b - a % b) b lt

-- ---- equal signs and others

pub equal_signs : (s t : Bool) → beq s t ≡ true → s ≡ t
equal_signs false false e = refl
equal_signs true true e = refl
equal_signs _ _ e = cc

pub opposite : (s t : Bool) → beq s t ≡ false → t ≡ not s
opposite false true e = refl
opposite true false e = refl
opposite _ _ e = cc
