-- Words of 32 bits are integers, and ranges of such have at most 32 digits.
use Rattle.std.proofs.Common.{◌≡◌, ℕ, zero, suc, ◌+◌, ◌-◌, ◌*◌, ◌/◌, ◌^◌, ◌<◌, ◌≤◌, true, false, true≢false, max, pow-suc, refl, sym, ap, ◌∙◌, subst, arith, w32}
use Rattle.std.specs.Prelude.{ℤ, pos, negsuc, int_le, int_lt, nat_abs, FitsSigned}
use Rattle.std.proofs.lemmas.Int.{ints}
use Rattle.std.proofs.lemmas.Int.Digits.{length-digits_of_step, length-digits_of-le}
use Rattle.std.proofs.lemmas.Nat.{pow_pos, leading_length}
use mir.Val.{bool_byte}
use lib.Count.{count_leading_zeros}
use Rattle.std.proofs.lemmas.Bool.{and_parts, and_from, le-leb, leb-true}
use Rattle.vhdl_numbers.specs.Digits.{places, without_sign, digits_between}
use Rattle.rtl_model.specs.bodies.Fits.{IsWidth}
use Rattle.vhdl_tree.specs.declared.operator.Direction.{Direction}
use Rattle.vhdl_tree.specs.declared.operator.Direction.TheVariants.{To, Downto}
use Rattle.vhdl_expand_rules.specs.Computed.{integers, has}
use Rattle.vhdl_expand_rules.specs.Integers.{IntegerRange, lower, upper}
use Rattle.vhdl_expand_rules.specs.Kinds.{number_size}
use Rattle.vhdl_expand_rules.specs.declared.range.IntegerRange as code
use Rattle.vhdl_expand_rules.specs.views.Integers.{range_view}
use Rattle.vhdl_expand_rules.specs.laws.Sites.{HasIntegers}

-- an integer (IEEE 1076-2008, 5.2.3.2)
abbrev pub IsInteger : ℤ → Type 0
IsInteger x = has integers x ≡ true

pub word_has : (x : ℤ) → FitsSigned w32 x → IsInteger x
word_has (pos n) h =
    let f = h.sfits in
    and_from (int_le (negsuc 2147483647) (pos n)) (int_le (pos n) (pos 2147483647)) refl (le-leb n 2147483647 (omega (arith, f)))
word_has (negsuc n) h =
    let f = h.sfits in
    and_from (int_le (negsuc 2147483647) (negsuc n)) (int_le (negsuc n) (pos 2147483647)) (le-leb n 2147483647 (omega (arith, f))) refl

-- ---- how many digits numbers have

not-below : (n : ℕ) → int_lt (pos n) (pos 0) ≡ false
not-below n = grind (arith, ints)

sign-off : (x : ℤ) → nat_abs x - bool_byte (int_lt x (pos 0)) ≡ without_sign x
sign-off (pos n) = let none : n - 0 ≡ n = omega arith in (λ i. n - bool_byte (not-below n i)) ∙ none
sign-off (negsuc n) = let e : suc n - 1 ≡ n = omega arith in e

-- as the code finds the size of a number without its sign
pub size_is : (x z : ℤ) (a b : ℕ) → z ≡ x → a ≡ nat_abs z → b ≡ bool_byte (int_lt z (pos 0)) → a - b ≡ without_sign x
size_is x z a b e h k = (λ i. h i - k i) ∙ sign-off z ∙ ap without_sign e

places_of : (m n : ℕ) → n < 2 ^ m → 2 ^ m ≤ 2 * n + 1 → places n ≡ m
places_of zero n h k = let few = length-digits_of-le 2 0 n (omega arith) h in omega (arith, few)
places_of (suc m) n h k =
    let p = pow-suc 2 m in
    let some = pow_pos m in
    let step = length-digits_of_step 2 n (omega arith) (omega (arith, p, some, k)) in
    let half = places_of m (n / 2) (omega (arith, p, h)) (omega (arith, p, k)) in
    omega (arith, step, half)

pub places_few : (x : ℤ) → IsInteger x → places (without_sign x) ≤ 31
places_few (pos n) h =
    let l : n ≤ 2147483647 = leb-true n 2147483647 (and_parts (int_le (negsuc 2147483647) (pos n)) (int_le (pos n) (pos 2147483647)) h).1 in
    length-digits_of-le 2 31 n (omega arith) (omega (arith, l))
places_few (negsuc n) h =
    let l : n ≤ 2147483647 = leb-true n 2147483647 (and_parts (int_le (negsuc 2147483647) (negsuc n)) (int_le (negsuc n) (pos 2147483647)) h).0 in
    length-digits_of-le 2 31 n (omega arith) (omega (arith, l))

pub places_counted : (x : ℤ) (a lead d : ℕ) → a ≡ without_sign x → a < 2 ^ 32 → lead ≡ count_leading_zeros 32 a → d ≡ 32 - lead → d ≡ places (without_sign x)
places_counted x a lead d is word counted made =
    let w = leading_length 32 a word in
    let long : d ≡ w.0 = omega (arith, counted, made, w.1) in
    long ∙ sym (subst (λ n. places n ≡ w.0) is (places_of w.0 a w.2 w.3))

-- with a sign, and without one
pub between_below : (x y : ℤ) → int_lt x (pos 0) ≡ true → max (places (without_sign x)) (places (without_sign y)) + 1 ≡ digits_between x y
between_below (pos n) y h = absurd (true≢false (sym h ∙ not-below n))
between_below (negsuc n) y h = omega arith

pub between_above : (x y : ℤ) → int_lt x (pos 0) ≡ false → max (places (without_sign y)) 1 ≡ digits_between x y
between_above (pos n) y h = omega arith
between_above (negsuc n) y h = absurd cc

between-few : (x y : ℤ) → IsInteger x → IsInteger y → (1 ≤ digits_between x y) × (digits_between x y ≤ 32)
between-few (pos n) y h k = let b = places_few y k in (omega arith, omega (arith, b))
between-few (negsuc n) y h k =
    let a = places_few (negsuc n) h in
    let b = places_few y k in
    (omega arith, omega (arith, a, b))

-- ---- ranges

abbrev pub AreIntegral : IntegerRange → Type 0
AreIntegral r = IsInteger r.left × IsInteger r.right

pub lower_has : (r : IntegerRange) → AreIntegral r → IsInteger (lower r)
lower_has r h = by r.direction
  where
    by : (d : Direction) → IsInteger (lower (record r { direction = d }))
    by To = h.0
    by Downto = h.1

pub upper_has : (r : IntegerRange) → AreIntegral r → IsInteger (upper r)
upper_has r h = by r.direction
  where
    by : (d : Direction) → IsInteger (upper (record r { direction = d }))
    by To = h.1
    by Downto = h.0

pub size_few : (r : IntegerRange) → AreIntegral r → (1 ≤ number_size r) × (number_size r ≤ 32)
size_few r h = between-few (lower r) (upper r) (lower_has r h) (upper_has r h)

pub size_width : (r : IntegerRange) → AreIntegral r → IsWidth (number_size r)
size_width r h = let w = size_few r h in let l : number_size r ≤ 32 = w.1 in (w.0, omega (arith, l))

-- of an object
pub integral : (r : IntegerRange) → HasIntegers r → AreIntegral r
integral r h =
    let ends = and_parts (has integers (lower r)) (has integers (upper r)) h.within in
    by r.direction ends.0 ends.1
  where
    by : (d : Direction) → IsInteger (lower (record r { direction = d })) → IsInteger (upper (record r { direction = d })) → AreIntegral r
    by To low high = (low, high)
    by Downto low high = (high, low)

-- of the code
pub range_width : (r : code.IntegerRange) → FitsSigned w32 r.left → FitsSigned w32 r.right → IsWidth (number_size (range_view r))
range_width r h k = size_width (range_view r) (word_has r.left h, word_has r.right k)
