-- No level is above the number of processes: below each there is one of each level.
use Rattle.std.proofs.Common.{◌≡◌, ◌≢◌, ℕ, suc, ◌<◌, ◌≤◌, List, length, get_or, refl, sym, ap, subst, ◌∙◌, arith, ◌⊎◌, inl, inr, Option, Some, None}
use Rattle.std.specs.Prelude.{IsSome, unwrap_or}
use Rattle.smallvec.specs.SmallVec.{SmallVec}
use Rattle.std.proofs.lemmas.Bool.{cases_eq, cases_lt}
use Rattle.std.proofs.lemmas.List.{get_or_past}
use Rattle.rtl_check_levels.specs.declared.counting.Counting.TheVariants.{Each}
use Rattle.rtl_check_levels.specs.Feeding.{Table, IsIn, feeders_of}
use Rattle.rtl_check_levels.specs.Levels.{AreLevels, IsHighest, level_of}
use Rattle.rtl_check_nets.proofs.Ladders.{level_fits}

some_is : (o : Option (SmallVec ℕ)) (v : SmallVec ℕ) → o ≡ Some v → IsSome o
some_is (Some w) v e = refl
some_is None v e = absurd cc

none_is : (o : Option (SmallVec ℕ)) → o ≡ None → IsSome o → ⊥
none_is (Some w) e s = absurd cc
none_is None e s = absurd cc

some_level : (o : Option ℕ) (k : ℕ) → unwrap_or o 0 ≡ suc k → o ≡ Some (suc k)
some_level None k e = absurd (omega arith)
some_level (Some n) k e = ap (λ (i : ℕ). Some i) e

module _ (table : Table) (levels from : List (Option ℕ)) (greatest : ℕ) (a : AreLevels table levels from greatest) where
  placed : (q level : ℕ) → level_of levels q ≡ Some level → IsIn table q
  placed q level e = go (get_or table q None) refl
    where
      go : (o : Option (SmallVec ℕ)) → get_or table q None ≡ o → IsIn table q
      go None is =
          let none : level_of levels q ≡ None = (a.others q (λ s. none_is (get_or table q None) is s)).0 in
          let h : None ≡ Some level = sym none ∙ e in
          absurd cc
      go (Some v) is = some_is (get_or table q None) v is

  there : (q level : ℕ) → level_of levels q ≡ Some level → q < length levels
  there q level e = go (cases_lt q (length levels))
    where
      go : (q < length levels) ⊎ (length levels ≤ q) → q < length levels
      go (inl l) = l
      go (inr l) = let h : None ≡ Some level = sym (get_or_past levels q None l) ∙ e in absurd cc

  -- one of the level below
  lower : (q below : ℕ) → level_of levels q ≡ Some (suc (suc below)) → (p : ℕ) × (level_of levels p ≡ Some (suc below))
  lower q below e =
      let (level, is, (down, up, highest)) = a.each q (placed q (suc (suc below)) e) in
      let same : Some level ≡ Some (suc (suc below)) = sym is ∙ e in
      let h : level ≡ suc (suc below) = cc in
      let k : down ≡ suc below = omega (arith, up, h) in
      go (get_or from q None) (subst (λ (n : ℕ). IsHighest Each (feeders_of table q) levels from n (get_or from q None)) k highest)
    where
      go : (o : Option ℕ) → IsHighest Each (feeders_of table q) levels from (suc below) o → (p : ℕ) × (level_of levels p ≡ Some (suc below))
      go None h = let z : suc below ≡ 0 = h.met in absurd (omega arith)
      go (Some f) h = let (some, (p, c, l, s)) = h.met in (p, l)

  abbrev number : ℕ → ℕ
  number q = unwrap_or (level_of levels q) 0

  inside : (q k : ℕ) → number q ≡ suc k → q < length levels
  inside q k e = there q (suc k) (some_level (level_of levels q) k e)

  next : (q k : ℕ) → number q ≡ suc (suc k) → (p : ℕ) × (number p ≡ suc k)
  next q k e = let (p, is) = lower q k (some_level (level_of levels q) (suc k) e) in (p, ap (λ (o : Option ℕ). unwrap_or o 0) is)

  pub greatest_fits : greatest ≤ length table
  greatest_fits = go (cases_eq greatest 0)
    where
      go : (greatest ≡ 0) ⊎ (greatest ≢ 0) → greatest ≤ length table
      go (inl e) = omega (arith, e)
      go (inr some) =
          let (p, e) = a.met some in
          let l = level_fits number (length levels) inside next p greatest (ap (λ (o : Option ℕ). unwrap_or o 0) e) in
          let m = a.each_row in
          omega (arith, l, m)
