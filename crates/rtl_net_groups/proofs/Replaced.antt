-- Values that are written over others, so many at a time.
use Rattle.std.proofs.Common.{◌≡◌, ℕ, ◌+◌, ◌-◌, ◌≤◌, ◌<◌, Bool, true, false, ◌||◌, List, ◌++◌, length, get_or, take, drop, refl, sym, ap, ◌∙◌, arith, ◌⊎◌, inl, inr}
use Rattle.std.proofs.lemmas.Bool.{cases_lt}
use Rattle.std.proofs.lemmas.List.{ext_get_or, take-append-drop}
use Rattle.std.proofs.lemmas.Simd.{get_or-chunk, length-chunk, put_chunk_is}
use lib.Lanes.{chunk, put_chunk}
use Rattle.rtl_net_groups.specs.Written.{IsOtherFrom, IsWritten}
use Rattle.rtl_net_groups.proofs.Writing.{first_difference}

-- a part that is written over itself changes nothing
pub put_same : (i n : ℕ) (xs : List ℕ) → i + n ≤ length xs → xs ≡ put_chunk i xs (chunk i n xs)
put_same i n xs l =
    let long : length (chunk i n xs) ≡ n = length-chunk i n xs l in
    sym (put_chunk_is i xs (chunk i n xs) (omega (arith, long, l))
    ∙ ap (λ (k : ℕ). take i xs ++ (take n (drop i xs) ++ drop k (drop i xs))) long
    ∙ ap (λ (ys : List ℕ). take i xs ++ ys) (take-append-drop n (drop i xs))
    ∙ take-append-drop i xs)

pub neither : (a b : Bool) → (a || b) ≡ false → (a ≡ false) × (b ≡ false)
neither true b e = let f : true ≡ false = e in cc
neither false b e = (refl, e)

-- lanes that differ from those that were there at first
pub other_lanes : (n at from : ℕ) (values over first : List ℕ) → from ≤ at → at + n ≤ length values → at + n ≤ length over
    → ((k : ℕ) → at ≤ k → get_or over k 0 ≡ get_or first k 0) → (chunk at n over ≡ chunk at n values → ⊥) → IsOtherFrom from values first
other_lanes n at from values over first grows in_values in_over behind differ =
    let long = length-chunk at n over in_over in
    let (j, l, other) = first_difference (chunk at n over) (chunk at n values) (long ∙ sym (length-chunk at n values in_values)) differ in
    let within : j < n = omega (arith, l, long) in
    record {
      place = at + j;
      behind = omega (arith, grows);
      there = omega (arith, within, in_values);
      differ = λ e. other (get_or-chunk at n over j 0 within ∙ behind (at + j) (omega arith) ∙ e ∙ sym (get_or-chunk at n values j 0 within));
    }

-- three parts, one behind the other, of which the last tells of all
module _ (values first second third : List ℕ) (n m : ℕ) (d e f : Bool) (first_tells : d ≡ true → (◌≡◌ {A = Bool} false true) ⊎ IsOtherFrom 0 values first)
    (behind : (k : ℕ) → n ≤ k → get_or second k 0 ≡ get_or first k 0) (second_tells : e ≡ true → (d ≡ true) ⊎ IsOtherFrom n values second)
    (grows : n ≤ m) (further : (k : ℕ) → m ≤ k → get_or third k 0 ≡ get_or second k 0) (third_tells : f ≡ true → (e ≡ true) ⊎ IsOtherFrom m values third) where
  in_first : (◌≡◌ {A = Bool} false true) ⊎ IsOtherFrom 0 values first → IsOtherFrom 0 values first
  in_first (inl none) = let no : ◌≡◌ {A = Bool} false true = none in cc
  in_first (inr O) = O

  in_second : (d ≡ true) ⊎ IsOtherFrom n values second → IsOtherFrom 0 values first
  in_second (inl told) = in_first (first_tells told)
  in_second (inr O) = record { place = O.place; behind = omega arith; there = O.there; differ = λ is. O.differ (behind O.place O.behind ∙ is) }

  in_third : (e ≡ true) ⊎ IsOtherFrom m values third → IsOtherFrom 0 values first
  in_third (inl told) = in_second (second_tells told)
  in_third (inr O) = record {
    place = O.place;
    behind = omega arith;
    there = O.there;
    differ = λ is. O.differ (further O.place O.behind ∙ behind O.place (omega (arith, grows, O.behind)) ∙ is);
  }

  pub other_of_three : f ≡ true → IsOtherFrom 0 values first
  other_of_three told = in_third (third_tells told)

-- what is written that was there leaves all values as they were
pub same_values : (first : ℕ) (values old new : List ℕ) → IsWritten first values old new → ((k : ℕ) → k < length values → get_or old (first + k) 0 ≡ get_or values k 0) → old ≡ new
same_values first values old new W same = ext_get_or 0 old new (sym W.as_many) (λ n l. by n (cases_lt n first))
  where
    behind : (n : ℕ) → first ≤ n → (n < first + length values) ⊎ (first + length values ≤ n) → get_or old n 0 ≡ get_or new n 0
    behind n low (inl less) =
        let (k, at) : (k : ℕ) × (n ≡ first + k) = (n - first, omega (arith, low)) in
        let within : k < length values = omega (arith, at, less) in
        ap (λ (m : ℕ). get_or old m 0) at ∙ same k within ∙ sym (W.written k within) ∙ ap (λ (m : ℕ). get_or new m 0) (sym at)
    behind n low (inr past) = sym (W.behind n past)

    by : (n : ℕ) → (n < first) ⊎ (first ≤ n) → get_or old n 0 ≡ get_or new n 0
    by n (inl less) = sym (W.below n less)
    by n (inr low) = behind n low (cases_lt n (first + length values))
