-- Values that print as digits, lane by lane.
use Rattle.std.proofs.Common.{◌≡◌, ℕ, Bool, true, false, not, ◌||◌, ltb, List, [], ◌∷◌, length, map, get_or, take, drop, Fits, w8, refl, sym, ap, ◌∙◌, ◌<◌, arith}
use Rattle.std.specs.Prelude.{◌==◌}
use Rattle.std.specs.Str.{bytes_eq}
use Rattle.std.proofs.lemmas.Bool.{agree_below, agree_below_at, eqb-true, eq-eqb, ltb-true, lt-ltb, not-true, false≢true}
use Rattle.std.proofs.lemmas.Simd.{chunk-fits}
use lib.Lanes.{Each1}
use Rattle.rtl_vcd_values.specs.Values.{character}
use Rattle.rtl_vcd_values.specs.Puts.{plain, PrintsDigit}
use Rattle.rtl_vcd_values.proofs.Printing.{same_test}

abbrev pub implies : Bool → Bool → Bool
implies a b = not a || b

implied : (a b : Bool) → implies a b ≡ true → a ≡ true → b ≡ true
implied true b h e = h
implied false b h e = absurd (false≢true e)

-- values of which two bits tell that they print as digits
pub digits_from : (f : ℕ → ℕ) (vs : List ℕ) → Each1 (Fits w8) vs → map f vs ≡ map (λ _. 2) vs
    → agree_below (λ v. implies (f v == 2) (ltb (character v) 50)) (λ _. true) 256 ≡ true → Each1 PrintsDigit vs
digits_from f [] fit e all = tt
digits_from f (v ∷ vs) (fits, rest) e all =
    let head : f v ≡ 2 = ap (λ xs. get_or xs 0 0) e in
    let here = agree_below_at (λ v. implies (f v == 2) (ltb (character v) 50)) (λ _. true) 256 v all fits.fits in
    (ltb-true (character v) 50 (implied (f v == 2) (ltb (character v) 50) here (eq-eqb (f v) 2 head)), digits_from f vs rest (ap (drop 1) e) all)

as_digits : (f : ℕ → ℕ) (vs : List ℕ) → Each1 (Fits w8) vs → Each1 PrintsDigit vs
    → agree_below (λ v. implies (ltb (character v) 50) (f v == character v)) (λ _. true) 256 ≡ true → map f vs ≡ map character vs
as_digits f [] fit digits all = refl
as_digits f (v ∷ vs) (fits, rest) (digit, digits) all =
    let here = agree_below_at (λ v. implies (ltb (character v) 50) (f v == character v)) (λ _. true) 256 v all fits.fits in
    let same : f v ≡ character v = eqb-true (f v) (character v) (implied (ltb (character v) 50) (f v == character v) here (lt-ltb (character v) 50 digit)) in
    ap (λ x. x ∷ map f vs) same ∙ ap (λ xs. character v ∷ xs) (as_digits f vs rest digits all)

-- what is computed as the characters of digits are
pub digit_lanes : (n : ℕ) (f : ℕ → ℕ) (values : List ℕ) → ((k : ℕ) → Fits w8 (get_or values k 0)) → Each1 PrintsDigit (take n values)
    → {xs : List ℕ} → xs ≡ map f (take n values)
    → agree_below (λ v. implies (ltb (character v) 50) (f v == character v)) (λ _. true) 256 ≡ true → xs ≡ map character (take n values)
digit_lanes n f values fits digits e all = e ∙ as_digits f (take n values) (chunk-fits w8 0 n values fits) digits all

-- ---- a value that prints as a digit, and any other

-- a test of every byte, where it is wanted
abbrev test_all : Bool → (ℕ → Bool) → Bool
test_all true f = agree_below f (λ _. true) 256
test_all false f = true

-- whether two answers are the same
abbrev alike : Bool → Bool → Bool
alike true b = b
alike false b = not b

alike_from : (a b : Bool) → alike a b ≡ true → a ≡ b
alike_from true b e = sym e
alike_from false b e = sym (not-true b e)

test_at : (b : Bool) (f : ℕ → Bool) (n : ℕ) → test_all b f ≡ true → b ≡ true → n < 256 → f n ≡ true
test_at true f n all e lt = agree_below_at f (λ _. true) 256 n all lt
test_at false f n all e lt = absurd (false≢true e)

abbrev tests : ℕ → Bool
tests b = test_all (ltb (character b) 50) (λ a. alike (plain a == plain b) (character a == character b))

all_tests : agree_below tests (λ _. true) 256 ≡ true
all_tests = refl

lane_tells : (a b : ℕ) → Fits w8 a → Fits w8 b → PrintsDigit b → (plain a == plain b) ≡ (character a == character b)
lane_tells a b fits_a fits_b digit =
    let here = agree_below_at tests (λ _. true) 256 b all_tests fits_b.fits in
    alike_from (plain a == plain b) (character a == character b)
    (test_at (ltb (character b) 50) (λ n. alike (plain n == plain b) (character n == character b)) a here (lt-ltb (character b) 50 digit) fits_a.fits)

to_characters : (a b : ℕ) → Fits w8 a → Fits w8 b → PrintsDigit b → plain a ≡ plain b → character a ≡ character b
to_characters a b fits_a fits_b digit e = eqb-true (character a) (character b) (sym (lane_tells a b fits_a fits_b digit) ∙ eq-eqb (plain a) (plain b) e)

from_characters : (a b : ℕ) → Fits w8 a → Fits w8 b → PrintsDigit b → character a ≡ character b → plain a ≡ plain b
from_characters a b fits_a fits_b digit e = eqb-true (plain a) (plain b) (lane_tells a b fits_a fits_b digit ∙ eq-eqb (character a) (character b) e)

-- from lanes that are the same in one way to lanes that are the same in another
same_lanes : (f g : ℕ → ℕ) → ((a b : ℕ) → Fits w8 a → Fits w8 b → PrintsDigit b → f a ≡ f b → g a ≡ g b) → (xs ys : List ℕ) → Each1 (Fits w8) xs → Each1 (Fits w8) ys
    → Each1 PrintsDigit ys → map f xs ≡ map f ys → map g xs ≡ map g ys
same_lanes f g each [] [] fit_x fit_y digits e = refl
same_lanes f g each [] (y ∷ ys) fit_x fit_y digits e = absurd (omega (arith, ap length e))
same_lanes f g each (x ∷ xs) [] fit_x fit_y digits e = absurd (omega (arith, ap length e))
same_lanes f g each (x ∷ xs) (y ∷ ys) (fits_x, rest_x) (fits_y, rest_y) (digit, digits) e =
    let head = each x y fits_x fits_y digit (ap (λ zs. get_or zs 0 0) e) in
    ap (λ v. v ∷ map g xs) head ∙ ap (λ zs. g y ∷ zs) (same_lanes f g each xs ys rest_x rest_y digits (ap (drop 1) e))

-- where the new values print as digits, they print otherwise than the old ones where they are others without the bit
pub plain_tells : (n : ℕ) (old new : List ℕ) → ((k : ℕ) → Fits w8 (get_or old k 0)) → ((k : ℕ) → Fits w8 (get_or new k 0)) → Each1 PrintsDigit (take n new)
    → bytes_eq (map plain (take n old)) (map plain (take n new)) ≡ bytes_eq (map character (take n old)) (map character (take n new))
plain_tells n old new fits_old fits_new digits =
    let xs = take n old in
    let ys = take n new in
    let fit_x = chunk-fits w8 0 n old fits_old in
    let fit_y = chunk-fits w8 0 n new fits_new in
    same_test (map plain xs) (map plain ys) (map character xs) (map character ys)
    (same_lanes plain character to_characters xs ys fit_x fit_y digits)
    (same_lanes character plain from_characters xs ys fit_x fit_y digits)
