-- Actuals, listed one after another.
use Rattle.std.proofs.Common.{◌≡◌, ℕ, zero, suc, ◌+◌, ◌<◌, ◌≤◌, List, [], ◌∷◌, ◌++◌, length, map, get_or, take, replicate, Option, Some, None, option_map, refl, sym, ap, ◌∙◌}
use Rattle.std.specs.Borrow.{Bor}
use Rattle.std.specs.Prelude.{flat_map}
use Rattle.std.proofs.lemmas.List.{append_assoc, flat_map_more, map-append, take_all, take_more}
use Rattle.vhdl_names_units.specs.declared.actuals.Actual.{Actual}
use Rattle.vhdl_names_units.specs.views.Actuals.{behind_open}

module _ {A : Type 0} where
  -- what is lent
  abbrev pub lent : Option (Bor A) → Option A
  lent = option_map (λ (value : Bor A). value.now)

  none-lent : (n : ℕ) → map lent (replicate n None) ≡ replicate n None
  none-lent zero = refl
  none-lent (suc n) = ap (λ xs. None ∷ xs) (none-lent n)

  pub open_listed : (list new : List (Option (Bor A))) (before : List (Option A)) (n : ℕ) → map lent list ≡ before → new ≡ list ++ replicate n None
      → map lent new ≡ before ++ replicate n None
  open_listed list new before n so_far more =
      ap (map lent) more ∙ map-append lent list (replicate n None) ∙ ap (λ xs. xs ++ map lent (replicate n None)) so_far ∙ ap (λ xs. before ++ xs) (none-lent n)

  module _ (xs : List (Actual A)) (i : ℕ) where
    pub one_listed : (x : Actual A) (list skipped new : List (Option (Bor A))) (value : Bor A) → i < length xs → x ≡ get_or xs i x
        → map lent list ≡ flat_map behind_open (take i xs) → skipped ≡ list ++ replicate x.open None → new ≡ skipped ++ Some value ∷ [] → value.now ≡ x.value
        → map lent new ≡ flat_map behind_open (take (i + 1) xs)
    one_listed x list skipped new value below is so_far more last same =
        let before = flat_map behind_open (take i xs) in
        ap (map lent) last ∙ map-append lent skipped (Some value ∷ [])
        ∙ ap (λ ys. ys ++ Some value.now ∷ []) (open_listed list skipped before x.open so_far more)
        ∙ ap (λ v. (before ++ replicate x.open None) ++ Some v ∷ []) same
        ∙ append_assoc before (replicate x.open None) (Some x.value ∷ [])
        ∙ flat_map_more behind_open [] (take i xs) x
        ∙ ap (flat_map behind_open) (ap (λ y. take i xs ++ y ∷ []) is ∙ sym (take_more xs i x below))

    pub all_listed : (list new : List (Option (Bor A))) (n : ℕ) → length xs ≤ i → map lent list ≡ flat_map behind_open (take i xs) → new ≡ list ++ replicate n None
        → map lent new ≡ flat_map behind_open xs ++ replicate n None
    all_listed list new n past so_far more = open_listed list new (flat_map behind_open xs) n (so_far ∙ ap (flat_map behind_open) (take_all i xs past)) more
