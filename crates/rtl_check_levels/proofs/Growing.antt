-- The search goes on: what stays.
use Rattle.std.proofs.Common.{◌≡◌, ℕ, zero, suc, ◌+◌, ◌*◌, ◌<◌, ◌≤◌, ◌⊎◌, inl, inr, List, [], ◌∷◌, length, get_or, Option, Some, None, refl, sym, ap, subst, arith}
use Rattle.std.specs.Prelude.{IsSome}
use Rattle.std.specs.Global.{Vec}
use Rattle.rtl_check_levels.specs.Feeding.{Table, Feeds}
use Rattle.rtl_check_levels.specs.Levels.{level_of}
use Rattle.rtl_check_levels.specs.declared.finding.Finding.{Finding}
use Rattle.rtl_check_levels.specs.Finding.{Grows, IsRanked, IsWaiting, IsAmong, AreReleased, work_left, open_count}

-- ---- options

pub cases_of : {X : Type 0} (o : Option X) → (o ≡ None) ⊎ ((x : X) × (o ≡ Some x))
cases_of None = inl refl
cases_of (Some x) = inr (x, refl)

pub some_has : {X : Type 0} (o : Option X) (x : X) → o ≡ Some x → IsSome o
some_has o x e = subst IsSome (sym e) refl

pub none_lacks : {X : Type 0} (o : Option X) → o ≡ None → IsSome o → ⊥
none_lacks None e h = cc
none_lacks (Some x) e h = cc

pub some_within : {X : Type 0} (xs : List (Option X)) (q : ℕ) → IsSome (get_or xs q None) → q < length xs
some_within {X} [] q h = absurd (none_lacks {X = X} None refl h)
some_within (x ∷ xs) zero h = omega arith
some_within (x ∷ xs) (suc q) h = let l = some_within xs q h in omega arith

-- ---- growing

pub grows_not : (a : Finding) → Grows a a
grows_not a = record { levels = λ p level e. e; longer = omega arith; among = λ last q s. s; waits = λ p q w. w; less = omega arith }

pub grows_on : (a b c : Finding) → Grows a b → Grows b c → Grows a c
grows_on a b c g h = record {
  levels = λ p level e. h.levels p level (g.levels p level e);
  longer = let x = g.longer in let y = h.longer in omega arith;
  among = λ last q s. h.among last q (g.among last q s);
  waits = λ p q w. h.waits p q (g.waits p q w);
  less = let x : work_left b ≤ work_left a = g.less in let y : work_left c ≤ work_left b = h.less in le_on x y;
}
  where
    le_on : {i j k : ℕ} → j ≤ i → k ≤ j → k ≤ i
    le_on x y = omega arith

pub placed_grows : (table : Table) (a b : Finding) (q : ℕ) → Grows a b → IsRanked table a q → IsRanked table b q
placed_grows table a b q g h inside unplaced = go (cases_of (level_of a.levels.items q))
  where
    go : (level_of a.levels.items q ≡ None) ⊎ ((x : ℕ) × (level_of a.levels.items q ≡ Some x)) → (p : ℕ) × IsWaiting b p q × Feeds table p q
    go (inl e) = let (p, c, k) = h inside e in (p, g.waits p q c, k)
    go (inr (x, e)) = let k = g.levels q x e in absurd cc

-- ---- those that are released

module _ (table : Table) (old mid new : Finding) (last r : ℕ) (a : AreReleased old mid last) (g : Grows mid new) where
  pub released_placed : ((q : ℕ) → IsAmong mid.waits.items last q → IsRanked table new q) → IsRanked table old r → IsRanked table new r
  released_placed all h inside unplaced = go (cases_of (level_of old.levels.items r))
    where
      moved : (p : ℕ) → Feeds table p r → IsWaiting mid p r ⊎ IsAmong mid.waits.items last r → (p : ℕ) × IsWaiting new p r × Feeds table p r
      moved p k (inl c) = (p, g.waits p r c, k)
      moved p k (inr c) = all r c inside unplaced

      go : (level_of old.levels.items r ≡ None) ⊎ ((x : ℕ) × (level_of old.levels.items r ≡ Some x)) → (p : ℕ) × IsWaiting new p r × Feeds table p r
      go (inl e) = let (p, c, k) = h inside e in moved p k (a.waits p r c)
      go (inr (x, e)) =
          let m : level_of mid.levels.items r ≡ Some x = subst (λ (ls : Vec (Option ℕ)). level_of ls.items r ≡ Some x) (sym a.levels) e in
          let k = g.levels r x m in absurd cc

  pub released_less : work_left new < work_left old
  released_less =
      let e : open_count mid.levels.items ≡ open_count old.levels.items = ap (λ (ls : Vec (Option ℕ)). open_count ls.items) a.levels in
      let l = a.less in
      let m = g.less in
      go e l m
    where
      go : {o p q s t : ℕ} → p ≡ o → s < t → q ≤ 2 * p + s → q < 2 * o + t
      go e l m = omega arith
