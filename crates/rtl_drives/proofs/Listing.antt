-- The list of the places that pass, once one more place passes.
use Rattle.std.proofs.Common.{◌≡◌, ℕ, ◌+◌, ◌<◌, ◌≤◌, Bool, true, false, List, [], ◌∷◌, ◌++◌, length, get_or, set, sym, ◌∙◌, arith, length-append, ◌⊎◌, inl, inr}
use Rattle.std.specs.Prelude.{Contains}
use Rattle.std.proofs.lemmas.List.{get_or-set_same, get_or-set_other, length-set, get_or_append_left}
use Rattle.std.proofs.Math.Seq.{get_or-append_seam}
use Rattle.std.proofs.lemmas.List.Sums.{count_by-le-length}
use Rattle.std.proofs.lemmas.List.Elements.{Contains-push, Contains-append_left}
use Rattle.std.proofs.lemmas.Bool.{cases_eq, cases_lt}
use Rattle.rtl_drives.specs.Listed.{AreListed}
use Rattle.rtl_drives.proofs.Counting.{count_by-set_more, count_by-set_same}

module _ {X : Type 0} (passes : X → Bool) (none : X) (xs : List X) (places : List ℕ) (A : AreListed passes none xs places) where
  module _ (place : ℕ) (value : X) (within : place < length xs) (holds : passes value ≡ true) where
    abbrev with_value : List X
    with_value = set xs place value

    -- where a place doesn't pass, the list isn't full
    pub room_left : passes (get_or xs place none) ≡ false → length places < length xs
    room_left fails =
        let more = count_by-set_more passes xs place value none within fails holds in
        let most = count_by-le-length passes with_value in
        omega (arith, more, most, A.each_once, length-set xs place value)

    stays : (q : ℕ) → passes (get_or xs q none) ≡ true → passes (get_or with_value q none) ≡ true
    stays q h = go (cases_eq q place)
      where
        go : (q ≡ place) ⊎ (q ≡ place → ⊥) → passes (get_or with_value q none) ≡ true
        go (inl e) = rw (e, get_or-set_same xs place value none within) holds
        go (inr n) = rw (get_or-set_other xs place q value none n) h

    was : (q : ℕ) → (q ≡ place → ⊥) → passes (get_or with_value q none) ≡ true → passes (get_or xs q none) ≡ true
    was q n h = rw (get_or-set_other xs place q value none n) at h

    -- a place that didn't pass is one more
    pub listed_more : passes (get_or xs place none) ≡ false → AreListed passes none with_value (places ++ place ∷ [])
    listed_more fails = record {
      there = λ k l. rw (length-set xs place value) (there k (cases_lt k (length places)) (omega (arith, length-append places (place ∷ []))));
      pass = λ k l. pass k (cases_lt k (length places)) (omega (arith, length-append places (place ∷ [])));
      are_all = λ q h. all q h (cases_eq q place);
      each_once = omega (arith, length-append places (place ∷ []), A.each_once, count_by-set_more passes xs place value none within fails holds);
    }
      where
        there : (k : ℕ) → (k < length places) ⊎ (length places ≤ k) → k < length places + 1 → get_or (places ++ place ∷ []) k 0 < length xs
        there k (inl h) l = rw (get_or_append_left places (place ∷ []) 0 k h) (A.there k h)
        there k (inr h) l = let e : k ≡ length places = omega arith in rw (e, get_or-append_seam places place [] 0) within

        pass : (k : ℕ) → (k < length places) ⊎ (length places ≤ k) → k < length places + 1 → passes (get_or with_value (get_or (places ++ place ∷ []) k 0) none) ≡ true
        pass k (inl h) l = rw (get_or_append_left places (place ∷ []) 0 k h) (stays (get_or places k 0) (A.pass k h))
        pass k (inr h) l = let e : k ≡ length places = omega arith in rw (e, get_or-append_seam places place [] 0, get_or-set_same xs place value none within) holds

        all : (q : ℕ) → passes (get_or with_value q none) ≡ true → (q ≡ place) ⊎ (q ≡ place → ⊥) → Contains (places ++ place ∷ []) q
        all q h (inl e) = rw e (Contains-push places place)
        all q h (inr n) = Contains-append_left places (place ∷ []) q (A.are_all q (was q n h))

    -- a place that passes already stays
    pub listed_again : passes (get_or xs place none) ≡ true → AreListed passes none with_value places
    listed_again held = record {
      there = λ k l. rw (length-set xs place value) (A.there k l);
      pass = λ k l. stays (get_or places k 0) (A.pass k l);
      are_all = λ q h. all q h (cases_eq q place);
      each_once = omega (arith, A.each_once, count_by-set_same passes xs place value none within (holds ∙ sym held));
    }
      where
        all : (q : ℕ) → passes (get_or with_value q none) ≡ true → (q ≡ place) ⊎ (q ≡ place → ⊥) → Contains places q
        all q h (inl e) = rw e (A.are_all place held)
        all q h (inr n) = A.are_all q (was q n h)
