-- Numbers in two's complement.
use Rattle.std.proofs.Common.{◌≡◌, ℕ, zero, suc, ◌+◌, ◌-◌, ◌*◌, ◌%◌, ◌^◌, ◌<◌, ◌≤◌, List, [], ◌∷◌, length, refl, sym, ap, ◌∙◌, arith}
use Rattle.std.specs.Prelude.{pos, neg_ℤ, ◌-ℤ◌}
use Rattle.std.specs.Int.{bit_at}
use Rattle.std.proofs.lemmas.Int.{ints}
use Rattle.std.proofs.lemmas.Nat.Bits.{bit_at_not, bit_at-lt}
use mir.Syntax.{w64}
use Rattle.vhdl_values.specs.declared.scalar.Nine.{Nine}
use Rattle.vhdl_values.specs.Logic.{not_of, not_of_all}
use Rattle.vhdl_values.specs.Numbers.{bit_of, digit_of, number_of, digits_of}
use Rattle.vhdl_values.proofs.Digits.{bit_of_le, number_of_below}
use Rattle.vhdl_numbers.specs.TwosComplement.{signed_number_of, signed_digits_of}

-- ---- the number of a vector

below_half : (b p r n : ℕ) → b ≤ 1 → n ≡ b * p + r → n < p → pos n ≡ pos r -ℤ pos (b * p)
below_half zero p r n le e lt = omega (arith, ints)
below_half (suc zero) p r n le e lt = absurd (omega arith)
below_half (suc (suc b)) p r n le e lt = absurd (omega arith)

from_half : (b p r n : ℕ) → b ≤ 1 → r < p → n ≡ b * p + r → p ≤ n → neg_ℤ (pos (p - (n - p))) ≡ pos r -ℤ pos (b * p)
from_half zero p r n le lt e high = absurd (omega arith)
from_half (suc zero) p r n le lt e high = omega (arith, ints)
from_half (suc (suc b)) p r n le lt e high = absurd (omega arith)

pub number-below_half : (vs : List Nine) (n : ℕ) → 1 ≤ length vs → number_of vs ≡ n → n < 2 ^ (length vs - 1) → pos n ≡ signed_number_of vs
number-below_half [] n some e lt = absurd (omega arith)
number-below_half (v ∷ vs) n some e lt =
    let one : suc (length vs) - 1 ≡ length vs = omega arith in
    below_half (bit_of v) (2 ^ length vs) (number_of vs) n (bit_of_le v) (sym e) (rw (sym one) lt)

pub number-from_half : (vs : List Nine) (n : ℕ) → 1 ≤ length vs → number_of vs ≡ n → 2 ^ (length vs - 1) ≤ n
    → neg_ℤ (pos (2 ^ (length vs - 1) - (n - 2 ^ (length vs - 1)))) ≡ signed_number_of vs
number-from_half [] n some e high = absurd (omega arith)
number-from_half (v ∷ vs) n some e high =
    let one : suc (length vs) - 1 ≡ length vs = omega arith in
    rw one (from_half (bit_of v) (2 ^ length vs) (number_of vs) n (bit_of_le v) (number_of_below vs) (sym e) (rw (sym one) high))

-- ---- the digits of a number

inverted-digit : (d : ℕ) → d < 2 → not_of (digit_of d) ≡ digit_of (1 - d)
inverted-digit zero lt = refl
inverted-digit (suc zero) lt = refl
inverted-digit (suc (suc d)) lt = absurd (omega arith)

-- inverted digits are those of the number from the other end
pub inverted-digits : (len n : ℕ) → len ≤ 64 → n < 2 ^ 64 → not_of_all (digits_of len n) ≡ digits_of len (2 ^ 64 - 1 - n)
unfolding digits_of
inverted-digits zero n room lt = refl
inverted-digits (suc k) n room lt =
    let turned : bit_at (2 ^ 64 - 1 - n) k ≡ 1 - bit_at n k = bit_at_not w64 n k lt (omega arith) in
    ap (λ v. v ∷ not_of_all (digits_of k n)) (inverted-digit (bit_at n k) (bit_at-lt n k))
    ∙ ap (λ d. digit_of d ∷ not_of_all (digits_of k n)) (sym turned)
    ∙ ap (λ ds. digit_of (bit_at (2 ^ 64 - 1 - n) k) ∷ ds) (inverted-digits k n (omega arith) lt)

pub digits-negative : (len n : ℕ) → len ≤ 64 → n < 2 ^ 64 → digits_of len ((0 + (2 ^ 64 - n)) % 2 ^ 64) ≡ signed_digits_of len (neg_ℤ (pos n))
digits-negative len zero room lt = ap (digits_of len) (omega arith)
digits-negative len (suc n) room lt =
    let rest : (0 + (2 ^ 64 - suc n)) % 2 ^ 64 ≡ 2 ^ 64 - 1 - n = omega arith in
    ap (digits_of len) rest ∙ sym (inverted-digits len n room (omega arith))
