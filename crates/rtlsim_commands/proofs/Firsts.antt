-- The first numbers of nets that still change.
use Rattle.std.proofs.Common.{◌≡◌, ℕ, zero, suc, ◌+◌, ◌<◌, Bool, true, false, List, [], ◌∷◌, ◌++◌, length, cond, filter, Result, Ok, Err, refl, sym, ap, subst, ◌∙◌, append-nil, arith}
use Rattle.arrayvec.specs.ArrayVec.{ArrayVec}
use Rattle.std.specs.Prelude.{take, IsOk, OnOk, OnErr}
use Rattle.std.specs.List.{range_with_len}
use Rattle.std.proofs.lemmas.List.Elements.{filter-append}
use Rattle.rtl_model.specs.basics.Valuations.{has_event}
use Rattle.rtlsim_listing.proofs.Printing.{counted}

-- ---- the first of a list with one more

room_left : (k : ℕ) (xs : List ℕ) (x : ℕ) → length (take k xs) < k → take k (xs ++ x ∷ []) ≡ take k xs ++ x ∷ []
room_left zero xs x less = absurd (omega (arith, less))
room_left (suc zero) [] x less = refl
room_left (suc (suc k)) [] x less = refl
room_left (suc k) (y ∷ xs) x less = ap (λ (l : List ℕ). y ∷ l) (room_left k xs x (omega (arith, less)))

no_room : (k : ℕ) (xs : List ℕ) (x : ℕ) → length (take k xs) ≡ k → take k (xs ++ x ∷ []) ≡ take k xs
no_room zero xs x all = refl
no_room (suc k) [] x all = absurd (omega (arith, all))
no_room (suc k) (y ∷ xs) x all = ap (λ (l : List ℕ). y ∷ l) (no_room k xs x (omega (arith, all)))

-- ---- the nets up to a number

module _ (before now : List ℕ) where
  abbrev pub so_far : ℕ → List ℕ
  so_far n = filter (has_event before now) (range_with_len 0 n)

  more_if : (n : ℕ) (b : Bool) → has_event before now n ≡ b → so_far (n + 1) ≡ so_far n ++ cond b (n ∷ []) []
  more_if n b is =
      ap (filter (has_event before now)) (counted n) ∙ filter-append (has_event before now) (range_with_len 0 n) (n ∷ [])
      ∙ ap (λ (c : Bool). so_far n ++ cond c (n ∷ []) []) is

  kept : (n : ℕ) → has_event before now n ≡ true → length (take 17 (so_far n)) < 17 → take 17 (so_far (n + 1)) ≡ take 17 (so_far n) ++ n ∷ []
  kept n is less = ap (take 17) (more_if n true is) ∙ room_left 17 (so_far n) n less

  not_kept : (n : ℕ) → has_event before now n ≡ true → length (take 17 (so_far n)) ≡ 17 → take 17 (so_far (n + 1)) ≡ take 17 (so_far n)
  not_kept n is all = ap (take 17) (more_if n true is) ∙ no_room 17 (so_far n) n all

  -- a number is added where there is room
  pub noted : {A F : Type 0} (n : ℕ) → has_event before now n ≡ true → (old new : ArrayVec ℕ) → old.items ≡ take 17 (so_far n) → (added : Result A F)
      → OnOk added (new.items ≡ old.items ++ n ∷ []) → OnErr added (new ≡ old) → OnErr added (length old.items ≡ 17) → (IsOk added → length old.items < 17)
      → new.items ≡ take 17 (so_far (n + 1))
  noted n is old new old_is (Ok x) ok err full room =
      let less : length (take 17 (so_far n)) < 17 = subst (λ (xs : List ℕ). length xs < 17) old_is (room refl) in
      ok ∙ ap (λ (xs : List ℕ). xs ++ n ∷ []) old_is ∙ sym (kept n is less)
  noted n is old new old_is (Err f) ok err full room =
      let all : length (take 17 (so_far n)) ≡ 17 = subst (λ (xs : List ℕ). length xs ≡ 17) old_is full in
      ap (λ (v : ArrayVec ℕ). v.items) err ∙ old_is ∙ sym (not_kept n is all)

  pub unnoted : (n : ℕ) → has_event before now n ≡ false → (old new : ArrayVec ℕ) → old.items ≡ take 17 (so_far n) → new ≡ old → new.items ≡ take 17 (so_far (n + 1))
  unnoted n is old new old_is new_is =
      ap (λ (v : ArrayVec ℕ). v.items) new_is ∙ old_is ∙ ap (take 17) (sym (more_if n false is ∙ append-nil (so_far n)))
