-- The digits of a power of 2: a one, and zeros behind it.
use Rattle.std.proofs.Common.{◌≡◌, ℕ, zero, suc, ◌-◌, ◌/◌, ◌%◌, ◌^◌, ◌<◌, ◌≤◌, ◌∷◌, replicate, refl, sym, ap, ◌∙◌, arith}
use Rattle.std.proofs.Math.Nat.{div_self, mod_self, zero-div, zero-mod}
use Rattle.std.proofs.lemmas.Nat.{pow_pos}
use Rattle.vhdl_values.specs.declared.scalar.Nine.TheVariants.{One, Zero}
use Rattle.vhdl_values.specs.Numbers.{digit_of, digits_of}
use Rattle.vhdl_values.proofs.Digits.{digits_of-cong}
use Rattle.vhdl_expand_rules.specs.Computed.{top_digit}

zeros : (k : ℕ) → digits_of k 0 ≡ replicate k Zero
unfolding digits_of
zeros zero = refl
zeros (suc k) = (λ i. digit_of (zero-div (2 ^ k) i % 2) ∷ zeros k i)

pub top_digits : (len n : ℕ) → 1 ≤ len → n ≡ 2 ^ (len - 1) → digits_of len n ≡ top_digit len
unfolding digits_of top_digit
top_digits zero n h e = absurd (omega (arith, h))
top_digits (suc k) n h e =
    let less : suc k - 1 ≡ k = omega arith in
    let is : n ≡ 2 ^ k = e ∙ ap (λ j. 2 ^ j) less in
    let some : 0 < 2 ^ k = pow_pos k in
    let one = div_self {n = 2 ^ k} some in
    let rest = digits_of-cong k (2 ^ k) 0 (mod_self (2 ^ k) ∙ sym (zero-mod (2 ^ k))) ∙ zeros k in
    (λ i. digit_of (is i / 2 ^ k % 2) ∷ digits_of k (is i)) ∙ (λ i. digit_of (one i % 2) ∷ rest i) ∙ ap (λ j. One ∷ replicate j Zero) (sym less)
