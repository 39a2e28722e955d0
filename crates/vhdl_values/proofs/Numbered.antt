-- The number of a good vector is a word of its planes, and the planes of a number.
use Rattle.std.proofs.Common.{◌≡◌, ◌≢◌, ℕ, zero, suc, ◌+◌, ◌-◌, ◌*◌, ◌/◌, ◌%◌, ◌^◌, ◌<◌, ◌≤◌, Bool, true, false, List, [], ◌∷◌, length, refl, sym, ap, ◌∙◌, arith}
use Rattle.std.specs.Prelude.{◌&&◌, bit_and}
use Rattle.std.specs.List.{list_all}
use Rattle.std.proofs.Math.Nat.{pow-suc}
use Rattle.std.proofs.lemmas.Nat.{pow_pos, mod-pow-add, and_mask}
use Rattle.vhdl_values.specs.declared.scalar.Nine.{Nine}
use Rattle.vhdl_values.specs.declared.scalar.Nine.TheVariants.{Zero, One, L, H}
use Rattle.vhdl_values.specs.Numbers.{is_good, all_good, bit_of, number_of, digit_of, digits_of}
use Rattle.vhdl_values.specs.Planes.{bit, marks, has_bit, plane_of}
use Rattle.vhdl_values.proofs.Marks.{marks_below, marks-like}
use Rattle.vhdl_values.proofs.Tables.{same_for_each}
use Rattle.vhdl_values.proofs.Digits.{length-digits_of, good-digits_of}
use Rattle.vhdl_values.proofs.Kept.{IsKept}

-- a word with all bits marks all
full-step : (b : Bool) (p m : ℕ) → m < p → bit b * p + m ≡ p * 2 - 1 → (b ≡ true) × (m ≡ p - 1)
full-step true p m lt e = (refl, omega arith)
full-step false p m lt e = absurd (omega arith)

pub all-marked : {A : Type 0} (f : A → Bool) (xs : List A) → marks f xs ≡ 2 ^ length xs - 1 → list_all f xs ≡ true
unfolding marks
all-marked f [] e = refl
all-marked f (x ∷ xs) e =
    let here = full-step (f x) (2 ^ length xs) (marks f xs) (marks_below f xs) (e ∙ ap (λ n. n - 1) (pow-suc 2 (length xs))) in
    ap (λ b. b && list_all f xs) here.0 ∙ all-marked f xs here.1

both-true : (a b : Bool) → (a && b) ≡ true → (a ≡ true) × (b ≡ true)
both-true true b e = (refl, e)
both-true false b e = cc

pub marks-of_all : {A : Type 0} (f : A → Bool) (xs : List A) → list_all f xs ≡ true → marks f xs ≡ 2 ^ length xs - 1
unfolding marks
marks-of_all f [] e = omega arith
marks-of_all f (x ∷ xs) e =
    let both = both-true (f x) (list_all f xs) e in
    let pos : 0 < 2 ^ length xs = pow_pos (length xs) in
    rw (both.0, marks-of_all f xs both.1, pow-suc) (omega (arith, pos))

-- a good value has bit 1 set, and no other has
good-bit : (v : Nine) → is_good v ≡ has_bit 1 v
good-bit v = same_for_each is_good (has_bit 1) refl v

-- the second plane is full where all are good
good-plane : (vs : List Nine) → plane_of 1 vs ≡ marks is_good vs
good-plane vs = sym (marks-like is_good (has_bit 1) vs good-bit)

pub good_where_full : (vs : List Nine) (len a b c d : ℕ) → IsKept vs len a b c d → b ≡ 2 ^ length vs - 1 → all_good vs ≡ true
good_where_full vs len a b c d h e = all-marked is_good vs (sym (good-plane vs) ∙ sym h.second ∙ e)

elsewhere : (b : Bool) → (b ≡ true → ⊥) → b ≡ false
elsewhere true never = absurd (never refl)
elsewhere false never = refl

pub bad_elsewhere : (vs : List Nine) (len a b c d : ℕ) → IsKept vs len a b c d → b ≢ 2 ^ length vs - 1 → all_good vs ≡ false
bad_elsewhere vs len a b c d h ne = elsewhere (all_good vs) (λ good. ne (h.second ∙ good-plane vs ∙ marks-of_all is_good vs good))

-- and the number is then the first plane
good-digit : (v : Nine) → is_good v ≡ true → bit_of v ≡ bit (has_bit 0 v)
good-digit Zero e = refl
good-digit One e = refl
good-digit L e = refl
good-digit H e = refl
good-digit _ e = cc

pub number_of-good : (vs : List Nine) → all_good vs ≡ true → number_of vs ≡ plane_of 0 vs
unfolding marks
number_of-good [] e = refl
number_of-good (v ∷ vs) e =
    let both = both-true (is_good v) (all_good vs) e in
    ap (λ n. n * 2 ^ length vs + number_of vs) (good-digit v both.0) ∙ ap (λ n. bit (has_bit 0 v) * 2 ^ length vs + n) (number_of-good vs both.1)

-- the planes of the digits of a number
digit-bits : (d : ℕ) → d < 2 → (bit (has_bit 0 (digit_of d)) ≡ d) × (bit (has_bit 2 (digit_of d)) ≡ 0) × (bit (has_bit 3 (digit_of d)) ≡ 0)
digit-bits (suc (suc d)) lt = absurd (omega arith)
digit-bits _ lt = (refl, refl, refl)

plane-digits : (len n : ℕ) → plane_of 0 (digits_of len n) ≡ n % 2 ^ len
unfolding marks digits_of
plane-digits zero n = omega arith
plane-digits (suc k) n =
    let digit = digit-bits (n / 2 ^ k % 2) (omega arith) in
    let longer : 1 + k ≡ suc k = omega arith in
    ap (λ m. bit (has_bit 0 (digit_of (n / 2 ^ k % 2))) * 2 ^ m + plane_of 0 (digits_of k n)) (length-digits_of k n)
    ∙ ap (λ m. m * 2 ^ k + plane_of 0 (digits_of k n)) digit.0
    ∙ ap (λ m. n / 2 ^ k % 2 * 2 ^ k + m) (plane-digits k n)
    ∙ sym (mod-pow-add n 1 k)
    ∙ ap (λ m. n % 2 ^ m) longer

none-digits : (j len n : ℕ) → ((d : ℕ) → d < 2 → bit (has_bit j (digit_of d)) ≡ 0) → plane_of j (digits_of len n) ≡ 0
unfolding marks digits_of
none-digits j zero n none = refl
none-digits j (suc k) n none = rw (none (n / 2 ^ k % 2) (omega arith), none-digits j k n none) (omega arith)

pub IsKept-digits : (len n all : ℕ) → 1 ≤ len → len ≤ 64 → all ≡ 2 ^ len - 1 → IsKept (digits_of len n) len (bit_and n all) all 0 0
IsKept-digits len n all some room e =
    let long = length-digits_of len n in record {
      same = sym long;
      some = rw long some;
      room = rw long room;
      first = ap (bit_and n) e ∙ and_mask n len ∙ sym (plane-digits len n);
      second = e ∙ ap (λ m. 2 ^ m - 1) (sym long) ∙ sym (marks-of_all is_good _ (good-digits_of len n)) ∙ sym (good-plane (digits_of len n));
      third = sym (none-digits 2 len n (λ d lt. (digit-bits d lt).1));
      fourth = sym (none-digits 3 len n (λ d lt. (digit-bits d lt).2));
    }
