-- Numbers that lie within the integers, and what is computed of them in words.
use Rattle.std.proofs.Common.{◌≡◌, ◌^◌, ◌<◌, ◌≤◌, Bool, true, false, cond, refl, sym, ◌∙◌, subst, arith, w64, of_z, to_z}
use Rattle.std.specs.Prelude.{ℤ, pos, negsuc, neg_ℤ, ◌+ℤ◌, ◌-ℤ◌, ◌*ℤ◌, ◌≤ℤ◌, int_le, int_lt, int_div, nat_abs, unsigned_abs, FitsSigned}
use Rattle.std.specs.Int.{int_min, int_max}
use Rattle.std.proofs.lemmas.Int.{ints, to_z-of_z, fits_signed_mul, quot_is, quot_fits}
use Rattle.std.proofs.lemmas.Bool.{and_parts, leb-true, cond-true, cond-false}
use lib.Signed.{mag}
use Rattle.vhdl_expand_rules.specs.Computed.{Span, span, integers, has, covers, minimum, maximum, reach, quotient_span}

pub record IsNear (x : ℤ) : Type 0 where
  pub low : negsuc 2147483647 ≤ℤ x
  pub high : x ≤ℤ pos 2147483647
  pub size : unsigned_abs x ≤ 2147483648

near : (x : ℤ) → has integers x ≡ true → IsNear x
near (pos n) h =
    let l : n ≤ 2147483647 = leb-true n 2147483647 (and_parts (int_le (negsuc 2147483647) (pos n)) (int_le (pos n) (pos 2147483647)) h).1 in
    record { low = omega (arith, ints); high = omega (arith, ints); size = omega (arith, l) }
near (negsuc n) h =
    let l : n ≤ 2147483647 = leb-true n 2147483647 (and_parts (int_le (negsuc 2147483647) (negsuc n)) (int_le (negsuc n) (pos 2147483647)) h).0 in
    record { low = omega (arith, ints); high = omega (arith, ints); size = omega (arith, l) }

pub near_least : (s : Span) → covers integers s ≡ true → IsNear s.least
near_least s h = near s.least (and_parts (has integers s.least) (has integers s.greatest) h).0

pub near_greatest : (s : Span) → covers integers s ≡ true → IsNear s.greatest
near_greatest s h = near s.greatest (and_parts (has integers s.least) (has integers s.greatest) h).1

-- what has 64 digits stays
pub word : (x : ℤ) → mag x < 2 ^ 63 → to_z w64 (of_z w64 x) ≡ x
word x h = to_z-of_z w64 x (record { sfits = h })

-- ---- sums, differences and products

pub sum_word : (x y : ℤ) → IsNear x → IsNear y → to_z w64 (of_z w64 (to_z w64 (of_z w64 x) +ℤ to_z w64 (of_z w64 y))) ≡ x +ℤ y
sum_word x y h k = omega (arith, ints)

pub difference_word : (x y : ℤ) → IsNear x → IsNear y → to_z w64 (of_z w64 (to_z w64 (of_z w64 x) -ℤ to_z w64 (of_z w64 y))) ≡ x -ℤ y
difference_word x y h k = omega (arith, ints)

pub near_fits : (x : ℤ) → IsNear x → FitsSigned w64 x
near_fits x h = omega (arith, ints)

pub product_word : (x y : ℤ) → IsNear x → IsNear y → to_z w64 (of_z w64 (to_z w64 (of_z w64 x) *ℤ to_z w64 (of_z w64 y))) ≡ x *ℤ y
product_word x y h k =
    let p = to_z-of_z w64 x (near_fits x h) in
    let q = to_z-of_z w64 y (near_fits y k) in
    (λ i. to_z w64 (of_z w64 (p i *ℤ q i)))
    ∙ to_z-of_z w64 (x *ℤ y) (fits_signed_mul w64 x y 2147483648 2147483648 h.size k.size (omega arith))

pub opposite_word : (x : ℤ) → IsNear x → to_z w64 (of_z w64 (pos 0 -ℤ to_z w64 (of_z w64 x))) ≡ neg_ℤ x
opposite_word x h = omega (arith, ints)

pub more_word : (x : ℤ) → IsNear x → to_z w64 (of_z w64 (to_z w64 (of_z w64 x) +ℤ pos 1)) ≡ x +ℤ pos 1
more_word x h = omega (arith, ints)

pub less_word : (x : ℤ) → IsNear x → to_z w64 (of_z w64 (to_z w64 (of_z w64 x) -ℤ pos 1)) ≡ x -ℤ pos 1
less_word x h = omega (arith, ints)

pub near_word : (x : ℤ) → IsNear x → to_z w64 (of_z w64 x) ≡ x
near_word x h = to_z-of_z w64 x (near_fits x h)

-- ---- the less and the greater of two

least-is : (x y : ℤ) → int_min x y ≡ minimum x y
least-is x y = grind (arith, ints)

greatest-is : (x y : ℤ) → int_max x y ≡ maximum x y
greatest-is x y = grind (arith, ints)

least-turned : (x y : ℤ) → int_min x y ≡ minimum y x
least-turned x y = grind (arith, ints)

greatest-turned : (x y : ℤ) → int_max x y ≡ maximum y x
greatest-turned x y = grind (arith, ints)

module _ (x y r a b : ℤ) (p : a ≡ x) (q : b ≡ y) where
  pub less_of : r ≡ int_min a b → r ≡ minimum x y
  less_of e = e ∙ (λ i. int_min (p i) (q i)) ∙ least-is x y

  pub less_turned : r ≡ int_min a b → r ≡ minimum y x
  less_turned e = e ∙ (λ i. int_min (p i) (q i)) ∙ least-turned x y

  pub greater_of : r ≡ int_max a b → r ≡ maximum x y
  greater_of e = e ∙ (λ i. int_max (p i) (q i)) ∙ greatest-is x y

  pub greater_turned : r ≡ int_max a b → r ≡ maximum y x
  greater_turned e = e ∙ (λ i. int_max (p i) (q i)) ∙ greatest-turned x y

-- ---- reaches

pub record IsReach (r : ℤ) : Type 0 where
  pub low : pos 0 ≤ℤ r
  pub high : r ≤ℤ pos 2147483648

abs-reach : (x : ℤ) → IsNear x → IsReach (pos (nat_abs x))
abs-reach x h = let a : nat_abs x ≤ 2147483648 = h.size in record { low = omega (arith, ints); high = omega (arith, ints) }

pub reach_near : (s : Span) (r : ℤ) → covers integers s ≡ true → r ≡ reach s → IsReach r
unfolding reach
reach_near s r h e = subst IsReach (sym e) (by (int_le (pos (nat_abs s.least)) (pos (nat_abs s.greatest))))
  where
    by : (t : Bool) → IsReach (cond t (pos (nat_abs s.greatest)) (pos (nat_abs s.least)))
    by true = abs-reach s.greatest (near_greatest s h)
    by false = abs-reach s.least (near_least s h)

pub opposite_reach : (r : ℤ) → IsReach r → to_z w64 (of_z w64 (pos 0 -ℤ to_z w64 (of_z w64 r))) ≡ neg_ℤ r
opposite_reach r h = omega (arith, ints)

pub less_reach : (r : ℤ) → IsReach r → to_z w64 (of_z w64 (to_z w64 (of_z w64 r) -ℤ pos 1)) ≡ r -ℤ pos 1
less_reach r h = omega (arith, ints)

pub quotient_word : (x d : ℤ) → IsNear x → mag d < 2 ^ 63 → pos 1 ≤ℤ d → to_z w64 (of_z w64 (int_div (to_z w64 (of_z w64 x)) (to_z w64 (of_z w64 d)))) ≡ int_div x d
quotient_word x d h k some = quot_is w64 x d (near_fits x h) (record { sfits = k }) (quot_fits w64 x d (near_fits x h) (omega (arith, ints)))

pub most_near : (r m : ℤ) → IsReach r → m ≡ maximum (pos 0) (r -ℤ pos 1) → IsReach m
most_near r m h e = subst IsReach (sym e) (by (int_le (pos 0) (r -ℤ pos 1)) refl)
  where
    some : (r : ℤ) → IsReach r → int_le (pos 0) (r -ℤ pos 1) ≡ true → IsReach (r -ℤ pos 1)
    some r h k = record { low = grind (arith, ints); high = omega (arith, ints) }

    by : (t : Bool) → int_le (pos 0) (r -ℤ pos 1) ≡ t → IsReach (cond t (r -ℤ pos 1) (pos 0))
    by true k = some r h k
    by false k = record { low = omega (arith, ints); high = omega (arith, ints) }

-- ---- quotients

pub quotient_below : (s t : Span) (a b : ℤ) → int_lt t.least (pos 0) ≡ true → a ≡ neg_ℤ (reach s) → b ≡ reach s → span a b ≡ quotient_span s t
unfolding quotient_span
quotient_below s t a b h p q = (λ i. span (p i) (q i)) ∙ sym (cond-true (int_lt t.least (pos 0)) (span (neg_ℤ (reach s)) (reach s)) _ h)

pub quotient_above : (s t : Span) (d a b : ℤ) → int_lt t.least (pos 0) ≡ false → d ≡ maximum (pos 1) t.least
    → a ≡ minimum (pos 0) (int_div s.least d) → b ≡ maximum (pos 0) (int_div s.greatest d) → span a b ≡ quotient_span s t
unfolding quotient_span
quotient_above s t d a b h is p q =
    (λ i. span (p i) (q i))
    ∙ (λ i. span (minimum (pos 0) (int_div s.least (is i))) (maximum (pos 0) (int_div s.greatest (is i))))
    ∙ sym (cond-false (int_lt t.least (pos 0)) (span (neg_ℤ (reach s)) (reach s)) _ h)
