-- What is found among trials that follow one another.
use Rattle.std.proofs.Common.{◌≡◌, ℕ, zero, suc, ◌-◌, ◌<◌, ◌≤◌, length, map, flat_map, slice_index_or, true, false, List, [], ◌∷◌, ◌++◌, inl, inr, ⊎_elim, Option, Some, None, is_some, option_map, drop, sym, subst, arith, true≢false}
use Rattle.std.proofs.lemmas.Option.{none-some}
use Rattle.vhdl_lexer.proofs.Walks.{rest, rest_is}
use Rattle.vhdl_parser_rules.specs.Expected.{Said}
use Rattle.vhdl_expected.specs.Reading.{Reading}
use Rattle.vhdl_expected.specs.Told.{Finds, Trial, respelt_first, respelt_back}

module _ (r : Reading) where
  -- ---- what is found first

  go_on : (ts us : List Trial) (said : Option Said) → Finds r ts None → Finds r us said → Finds r (ts ++ us) said
  go_on [] us said none more = more
  go_on (t ∷ ts) us said none more = ⊎_elim (λ a. absurd (none-some _ a.1)) (λ b. inr (b.0, go_on ts us said b.1 more)) none

  stop : (ts us : List Trial) (said : Said) → Finds r ts (Some said) → Finds r (ts ++ us) (Some said)
  stop [] us said some = absurd (none-some said (sym some))
  stop (t ∷ ts) us said some = ⊎_elim (λ a. inl a) (λ b. inr (b.0, stop ts us said b.1)) some

  pub some_first : {A : Type 0} (f : A → Said) (found : Option A) (ts us : List Trial) → is_some found ≡ true → Finds r ts (option_map f found)
      → Finds r (ts ++ us) (option_map f found)
  some_first f None ts us so h = absurd (true≢false (sym so))
  some_first f (Some x) ts us so h = stop ts us (f x) h

  pub none_first : {A : Type 0} (f : A → Said) (found : Option A) (ts us : List Trial) (said : Option Said) → is_some found ≡ false
      → Finds r ts (option_map f found) → Finds r us said → Finds r (ts ++ us) said
  none_first f None ts us said not_so h more = go_on ts us said h more
  none_first f (Some x) ts us said not_so h more = absurd (true≢false not_so)

  -- ---- one table more

  pub some_among : {A B C : Type 0} (g : A → Said) (found : Option A) (f : B → List Trial) (k : C → B) (d : C) (xs : List C) → 1 ≤ length xs → is_some found ≡ true
      → Finds r (f (k (slice_index_or xs 0 d))) (option_map g found) → Finds r (flat_map f (map k xs)) (option_map g found)
  some_among g found f k d [] some so h = absurd (omega (arith, some))
  some_among g found f k d (x ∷ xs) some so h = some_first g found (f (k x)) (flat_map f (map k xs)) so h

  pub none_among : {A B C : Type 0} (g : A → Said) (found : Option A) (f : B → List Trial) (k : C → B) (d : C) (xs : List C) (said : Option Said) → 1 ≤ length xs
      → is_some found ≡ false → Finds r (f (k (slice_index_or xs 0 d))) (option_map g found) → Finds r (flat_map f (map k (rest xs))) said
      → Finds r (flat_map f (map k xs)) said
  none_among g found f k d [] said some not_so h more = absurd (omega (arith, some))
  none_among {C = C} g found f k d (x ∷ xs) said some not_so h more =
      none_first g found (f (k x)) (flat_map f (map k xs)) said not_so h
      (subst (λ (ys : List C). Finds r (flat_map f (map k ys)) said) (rest_is x xs) more)

  -- ---- one place more

  pub some_at : {A : Type 0} (f : A → Said) (found : Option A) (places place : ℕ) → 0 < places → is_some found ≡ true
      → Finds r (respelt_first r place (drop place r.tokens)) (option_map f found) → Finds r (respelt_back r places place) (option_map f found)
  some_at f found zero place some so h = absurd (omega (arith, some))
  some_at f found (suc n) place some so h = some_first f found (respelt_first r place (drop place r.tokens)) (respelt_back r n (place - 1)) so h

  pub none_at : {A : Type 0} (f : A → Said) (found : Option A) (places place : ℕ) (said : Option Said) → 0 < places → is_some found ≡ false
      → Finds r (respelt_first r place (drop place r.tokens)) (option_map f found)
      → Finds r (respelt_back r (places - 1) (place - 1)) said → Finds r (respelt_back r places place) said
  none_at f found zero place said some not_so h more = absurd (omega (arith, some))
  none_at f found (suc n) place said some not_so h more =
      let less : suc n - 1 ≡ n = omega arith in
      none_first f found (respelt_first r place (drop place r.tokens)) (respelt_back r n (place - 1)) said not_so h
      (subst (λ m. Finds r (respelt_back r m (place - 1)) said) less more)
