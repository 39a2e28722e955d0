-- Good vectors as the digits of their numbers.
use Rattle.std.proofs.Common.{◌≡◌, ℕ, zero, suc, ◌+◌, ◌-◌, ◌*◌, ◌/◌, ◌%◌, ◌^◌, ◌<◌, ◌≤◌, ◌≢◌, Bool, true, false, List, [], ◌∷◌, length, map, replicate, refl, sym, ap, ◌∙◌, arith}
use Rattle.std.specs.Prelude.{◌&&◌, ◌==◌, not, if◌then◌else◌, Some, None, unwrap_or, pos, ◌-ℤ◌}
use Rattle.std.proofs.lemmas.Int.{ints}
use Rattle.std.proofs.lemmas.Nat.{shr_high, mul-le, pow-add}
use Rattle.std.proofs.Math.Nat.{add-mul-mod_self_right, pow-le-pow_right}
use Rattle.vhdl_values.specs.declared.scalar.Nine.{Nine}
use Rattle.vhdl_values.specs.declared.scalar.Nine.TheVariants.{Zero, One, L, H}
use Rattle.vhdl_values.specs.Scalar.{x01_of}
use Rattle.vhdl_values.specs.Numbers.{is_good, all_good, bit_of, digit_of, number_of, digits_of}
use Rattle.vhdl_values.specs.Shifts.{leftmost}
use Rattle.vhdl_numbers.specs.TwosComplement.{signed_number_of, is_negative}
use Rattle.vhdl_numbers.specs.Converted.{cleaned}
use Rattle.vhdl_numbers.specs.Operators.{are_divisible}
use Rattle.vhdl_numbers.specs.Sizes.{with_sign, integer_of}
use Rattle.vhdl_numbers.specs.declared.wholes.Whole.{Whole}
use Rattle.vhdl_values.proofs.Digits.{bit_of_le, number_of_below, digits_of-cong}

-- what `number` says where it answers none
pub no_number : {A : Type 0} (b : Bool) (x : A) → None ≡ (if b then Some x else None) → b ≡ false
no_number true x e = cc
no_number false x e = refl

both-true : (a b : Bool) → (a && b) ≡ true → (a ≡ true) × (b ≡ true)
both-true true b e = (refl, e)
both-true false b e = cc

digit-x01 : (v : Nine) → is_good v ≡ true → x01_of v ≡ digit_of (bit_of v)
digit-x01 Zero e = refl
digit-x01 One e = refl
digit-x01 L e = refl
digit-x01 H e = refl
digit-x01 _ e = cc

-- the digits of a good vector's number are its values as 0 and 1
pub digits-good : (vs : List Nine) → all_good vs ≡ true → digits_of (length vs) (number_of vs) ≡ map x01_of vs
unfolding digits_of
digits-good [] e = refl
digits-good (v ∷ vs) e =
    let both = both-true (is_good v) (all_good vs) e in
    let below = number_of_below vs in
    let bit = bit_of_le v in
    let top : number_of (v ∷ vs) / 2 ^ length vs ≡ bit_of v = shr_high (bit_of v) (length vs) (number_of vs) below in
    let one : number_of (v ∷ vs) / 2 ^ length vs % 2 ≡ bit_of v = ap (λ n. n % 2) top ∙ omega arith in
    let turned : number_of (v ∷ vs) ≡ number_of vs + bit_of v * 2 ^ length vs = omega arith in
    let rest : number_of (v ∷ vs) % 2 ^ length vs ≡ number_of vs % 2 ^ length vs =
    ap (λ n. n % 2 ^ length vs) turned ∙ add-mul-mod_self_right (number_of vs) (bit_of v) (2 ^ length vs) in
    ap (λ d. digit_of d ∷ digits_of (length vs) (number_of (v ∷ vs))) one
    ∙ ap (λ ds. digit_of (bit_of v) ∷ ds) (digits_of-cong (length vs) (number_of (v ∷ vs)) (number_of vs) rest ∙ digits-good vs both.1)
    ∙ ap (λ w. w ∷ map x01_of vs) (sym (digit-x01 v both.0))

zero-div : (k : ℕ) → 0 / 2 ^ k % 2 ≡ 0
zero-div k = grind arith

-- and those of 0 are all 0
pub digits-zero : (len : ℕ) → digits_of len 0 ≡ replicate len Zero
unfolding digits_of
digits-zero zero = refl
digits-zero (suc k) = ap (λ d. digit_of d ∷ digits_of k 0) (zero-div k) ∙ ap (λ ds. Zero ∷ ds) (digits-zero k)

if_good : (vs : List Nine) (b : Bool) → all_good vs ≡ b → digits_of (length vs) (unwrap_or (if b then Some (number_of vs) else None) 0) ≡ (if b then map x01_of vs else replicate (length vs) Zero)
if_good vs true e = digits-good vs e
if_good vs false e = digits-zero (length vs)

pub cleaned-digits : (vs : List Nine) → digits_of (length vs) (unwrap_or (if all_good vs then Some (number_of vs) else None) 0) ≡ cleaned vs
cleaned-digits vs = if_good vs (all_good vs) refl

-- ---- sizes

pub product_has_room : (a b m n : ℕ) → 1 ≤ m → 1 ≤ n → m + n ≤ 64 → a ≤ 2 ^ (m - 1) → b ≤ 2 ^ (n - 1) → a * b < 2 ^ 64
product_has_room a b m n p q room la lb =
    let product = mul-le a b (2 ^ (m - 1)) (2 ^ (n - 1)) la lb in
    let both : 2 ^ (m - 1 + (n - 1)) ≡ 2 ^ (m - 1) * 2 ^ (n - 1) = pow-add 2 (m - 1) (n - 1) in
    let less : m - 1 + (n - 1) ≤ 62 = omega arith in
    let more : 2 ^ (m - 1 + (n - 1)) ≤ 2 ^ 62 = pow-le-pow_right (omega arith) less in
    omega (arith, product, both, more)

zero_from : (b p r : ℕ) → b ≤ 1 → r < p → pos r -ℤ pos (b * p) ≡ pos 0 → b * p + r ≡ 0
zero_from zero p r le lt e = omega (arith, ints)
zero_from (suc zero) p r le lt e = absurd (omega (arith, ints))
zero_from (suc (suc b)) p r le lt e = absurd (omega arith)

-- a vector whose number is 0 has no digit 1
pub number-zero : (vs : List Nine) → signed_number_of vs ≡ pos 0 → number_of vs ≡ 0
number-zero [] e = refl
number-zero (v ∷ vs) e = zero_from (bit_of v) (2 ^ length vs) (number_of vs) (bit_of_le v) (number_of_below vs) e

some_is : {A : Type 0} (b : Bool) (x y : A) → Some x ≡ (if b then Some y else None) → x ≡ y
some_is true x y e = cc
some_is false x y e = cc

signless : (s : Bool) (n : ℕ) → n ≤ 0 → with_sign s n ≡ pos 0
signless s (suc n) le = absurd (omega arith)
signless false zero le = refl
signless true zero le = refl

not_both : (a b : Bool) → (a && b && not true) ≡ false
not_both true true = refl
not_both true false = refl
not_both false b = refl

-- nothing is divided by 0
pub zero_divides_none : (a b : List Nine) (w : Whole) → w.size ≤ 0 → Some (integer_of w) ≡ (if all_good b then Some (signed_number_of b) else None) → are_divisible a b ≡ false
zero_divides_none a b w none e =
    let zero_is : signed_number_of b ≡ pos 0 = sym (some_is (all_good b) (integer_of w) (signed_number_of b) e) ∙ signless w.negative w.size none in
    rw (number-zero b zero_is) (not_both (all_good a) (all_good b))

-- ---- the sign

top_bit : (vs : List Nine) → 1 ≤ length vs → number_of vs / 2 ^ (length vs - 1) ≡ bit_of (leftmost Zero vs)
top_bit [] some = absurd (omega arith)
top_bit (v ∷ vs) some =
    let one : suc (length vs) - 1 ≡ length vs = omega arith in
    ap (λ k. number_of (v ∷ vs) / 2 ^ k) one ∙ shr_high (bit_of v) (length vs) (number_of vs) (number_of_below vs)

is_one : (n : ℕ) → n ≤ 1 → n ≢ 0 → n ≡ 1
is_one n le ne = omega arith

pub is_natural : (vs : List Nine) → 1 ≤ length vs → number_of vs / 2 ^ (length vs - 1) ≡ 0 → is_negative vs ≡ false
is_natural vs some e = let none : bit_of (leftmost Zero vs) ≡ 0 = sym (top_bit vs some) ∙ e in ap (λ n. n == 1) none

pub is_below_zero : (vs : List Nine) → 1 ≤ length vs → number_of vs / 2 ^ (length vs - 1) ≢ 0 → is_negative vs ≡ true
is_below_zero vs some ne =
    let one : bit_of (leftmost Zero vs) ≡ 1 = is_one _ (bit_of_le (leftmost Zero vs)) (λ e. ne (top_bit vs some ∙ e)) in
    ap (λ n. n == 1) one
