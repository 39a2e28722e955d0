-- Numbers of vectors and vectors of numbers.
use Rattle.std.proofs.Common.{◌≡◌, ℕ, zero, suc, ◌+◌, ◌-◌, ◌*◌, ◌/◌, ◌%◌, ◌^◌, ◌<◌, ◌≤◌, List, [], ◌∷◌, Some, length, refl, sym, ap, ◌∙◌, arith, Bool, true, false, None}
use Rattle.std.specs.Prelude.{if◌then◌else◌, max}
use Rattle.std.proofs.lemmas.Bool.Decides.{nat_tests}
use Rattle.std.proofs.Math.Nat.{pow-suc, pow-le-pow_right, add-mul-mod_self_right}
use Rattle.std.proofs.Math.Pow.{mod-mod-pow}
use Rattle.std.proofs.lemmas.Nat.{pow_pos, pow-add, mod-pow-add, field_of, mul-lt}
use Rattle.vhdl_values.specs.declared.scalar.Nine.{Nine}
use Rattle.vhdl_values.specs.declared.scalar.Nine.TheVariants.{U}
use Rattle.vhdl_values.specs.Numbers.{is_good, all_good, bit_of, digit_of, number_of, digits_of}
use Rattle.vhdl_values.specs.Arithmetic.{sum_of, difference_of}

pub bit_of_le : (v : Nine) → bit_of v ≤ 1
bit_of_le U = omega arith
bit_of_le _ = omega arith

-- a vector's number is below 2 to the power of its length
pub number_of_below : (vs : List Nine) → number_of vs < 2 ^ length vs
number_of_below [] = omega arith
number_of_below (v ∷ vs) =
    let rest = number_of_below vs in
    let top : bit_of v * 2 ^ length vs ≤ 1 * 2 ^ length vs = grind (arith, bit_of_le v) in
    rw pow-suc (omega (arith, top, rest))

-- a number below a shorter power fits a longer one
pub number_fits : (vs : List Nine) (w : ℕ) → length vs ≤ w → number_of vs < 2 ^ w
number_fits vs w le = let below = number_of_below vs in let more : 2 ^ length vs ≤ 2 ^ w = pow-le-pow_right (omega arith) le in omega arith

-- the product of two numbers fits the sum of the lengths
pub product_fits : (a b : List Nine) (w : ℕ) → length a + length b ≤ w → number_of a * number_of b < 2 ^ w
product_fits a b w le =
    let more : 2 ^ (length a + length b) ≤ 2 ^ w = pow-le-pow_right (omega arith) le in
    let below = mul-lt _ _ _ _ (number_of_below a) (number_of_below b) in
    let both : 2 ^ (length a + length b) ≡ 2 ^ length a * 2 ^ length b = pow-add 2 (length a) (length b) in
    omega (arith, below, both, more)

-- a digit below the cut stays
digit-mod : (n k j : ℕ) → n % 2 ^ (j + 1 + k) / 2 ^ k % 2 ≡ n / 2 ^ k % 2
digit-mod n k j = rw field_of (mod-mod-pow (n / 2 ^ k) j 1)

-- the last digits of a number that was cut
pub digits_of-mod : (len w n : ℕ) → len ≤ w → digits_of len (n % 2 ^ w) ≡ digits_of len n
unfolding digits_of
digits_of-mod zero w n le = refl
digits_of-mod (suc k) w n le =
    let split : w - suc k + 1 + k ≡ w = omega arith in
    let one : n % 2 ^ w / 2 ^ k % 2 ≡ n / 2 ^ k % 2 = ap (λ m. n % 2 ^ m / 2 ^ k % 2) (sym split) ∙ digit-mod n k (w - suc k) in
    ap (λ d. digit_of d ∷ digits_of k (n % 2 ^ w)) one ∙ ap (λ ds. digit_of (n / 2 ^ k % 2) ∷ ds) (digits_of-mod k w n (omega arith))

-- a multiple of the power that cuts is lost
pub digits_of-cong : (len m n : ℕ) → m % 2 ^ len ≡ n % 2 ^ len → digits_of len m ≡ digits_of len n
digits_of-cong len m n e = sym (digits_of-mod len len m (omega arith)) ∙ ap (digits_of len) e ∙ digits_of-mod len len n (omega arith)

difference-shift : (a b q m : ℕ) → b < q → a + ((m + 1) * q - b) ≡ (a + (q - b)) + m * q
difference-shift a b q m below = omega arith

-- a difference modulo a longer power
pub digits_of-difference : (len w a b : ℕ) → len ≤ w → b < 2 ^ len → digits_of len (a + (2 ^ w - b)) ≡ digits_of len (a + (2 ^ len - b))
digits_of-difference len w a b le below =
    let pos : 0 < 2 ^ (w - len) = pow_pos (w - len) in
    let more : 2 ^ (w - len) - 1 + 1 ≡ 2 ^ (w - len) = omega arith in
    let sum : w - len + len ≡ w = omega arith in
    let split : 2 ^ w ≡ (2 ^ (w - len) - 1 + 1) * 2 ^ len = ap (λ n. 2 ^ n) (sym sum) ∙ pow-add 2 (w - len) len ∙ ap (λ m. m * 2 ^ len) (sym more) in
    digits_of-cong len _ _
    (ap (λ p. (a + (p - b)) % 2 ^ len) split
    ∙ ap (λ n. n % 2 ^ len) (difference-shift a b (2 ^ len) (2 ^ (w - len) - 1) below)
    ∙ add-mul-mod_self_right (a + (2 ^ len - b)) (2 ^ (w - len) - 1) (2 ^ len))

pub if_good : (b : Bool) (m n : ℕ) → Some n ≡ (if b then Some m else None) → (b ≡ true) × (n ≡ m)
if_good true m n e = (refl, cc)
if_good false m n e = cc

-- what `number` says where it answers one
pub is_number : (vs : List Nine) (n : ℕ) → Some n ≡ (if all_good vs then Some (number_of vs) else None) → (all_good vs ≡ true) × (n ≡ number_of vs)
is_number vs n e = if_good (all_good vs) (number_of vs) n e

pub sum_of-digits : (a b : List Nine) (m n len w : ℕ) → (all_good a ≡ true) × (m ≡ number_of a) → (all_good b ≡ true) × (n ≡ number_of b) →
    len ≡ max (length a) (length b) → length a ≤ w → length b ≤ w → digits_of len ((m + n) % 2 ^ w) ≡ sum_of a b
sum_of-digits a b m n len w p q l la lb = rw (p.0, q.0, p.1, q.1, l) (digits_of-mod (max (length a) (length b)) w (number_of a + number_of b) (omega arith))

pub difference_of-digits : (a b : List Nine) (m n len w : ℕ) → (all_good a ≡ true) × (m ≡ number_of a) → (all_good b ≡ true) × (n ≡ number_of b) →
    len ≡ max (length a) (length b) → length a ≤ w → length b ≤ w → digits_of len ((m + (2 ^ w - n)) % 2 ^ w) ≡ difference_of a b
difference_of-digits a b m n len w p q l la lb =
    let longest = max (length a) (length b) in
    let fits : longest ≤ w = omega arith in
    rw (p.0, q.0, p.1, q.1, l)
    (digits_of-mod longest w _ fits ∙ digits_of-difference longest w (number_of a) (number_of b) fits (number_fits b longest (omega arith)))

pub length-digits_of : (len n : ℕ) → length (digits_of len n) ≡ len
unfolding digits_of
length-digits_of zero n = refl
length-digits_of (suc k) n = ap suc (length-digits_of k n)

-- a digit's value stands for it
good-digit_of : (d : ℕ) → is_good (digit_of d) ≡ true
good-digit_of zero = refl
good-digit_of (suc d) = grind (arith, nat_tests)

bit_of-digit_of : (d : ℕ) → d < 2 → bit_of (digit_of d) ≡ d
bit_of-digit_of (suc (suc d)) lt = absurd (omega arith)
bit_of-digit_of _ lt = refl

-- the vector of a number is good
pub good-digits_of : (len n : ℕ) → all_good (digits_of len n) ≡ true
unfolding digits_of
good-digits_of zero n = refl
good-digits_of (suc k) n = rw (good-digit_of (n / 2 ^ k % 2), good-digits_of k n) refl

-- and its number is that number, modulo 2 to the power of the length
pub number_of-digits_of : (len n : ℕ) → number_of (digits_of len n) ≡ n % 2 ^ len
unfolding digits_of
number_of-digits_of zero n = omega arith
number_of-digits_of (suc k) n =
    let one : bit_of (digit_of (n / 2 ^ k % 2)) ≡ n / 2 ^ k % 2 = bit_of-digit_of (n / 2 ^ k % 2) (omega arith) in
    let longer : 1 + k ≡ suc k = omega arith in
    let split : n % 2 ^ suc k ≡ n / 2 ^ k % 2 * 2 ^ k + n % 2 ^ k = ap (λ m. n % 2 ^ m) (sym longer) ∙ mod-pow-add n 1 k in
    rw (one, length-digits_of k n, number_of-digits_of k n, split) refl
