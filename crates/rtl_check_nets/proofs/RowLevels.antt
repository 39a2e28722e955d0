-- The levels of the rows of a table of nets, in the words of netlists.
use Rattle.std.proofs.Common.{◌≡◌, ◌≢◌, ℕ, zero, suc, pred, ◌<◌, ◌≤◌, ◌⊎◌, inl, inr, Bool, true, false, List, [], ◌∷◌, length, get_or, Option, Some, None, refl, sym, ap, subst, ◌∙◌, arith, Contains}
use Rattle.std.specs.Prelude.{IfSome, IsSome, IsTrue, MatchOption, if◌then◌else◌, unwrap_or}
use Rattle.std.proofs.lemmas.Bool.{cases_Bool, cases_lt}
use Rattle.std.proofs.lemmas.List.{get_or_past}
use Rattle.rtl_model.specs.simulation.Netlist.{Netlist, IsCombinational, process}
use Rattle.rtl_model.specs.simulation.Accepted.{LooksAt, IsResetBy}
use Rattle.rtl_model.specs.simulation.Elaborated.{IsWired}
use Rattle.rtl_model.specs.simulation.NetLevels.{IsDerived, ShowNetLevels}
use Rattle.rtl_check_levels.specs.declared.counting.Counting.{Counting}
use Rattle.rtl_check_levels.specs.Feeding.{Table, IsIn, Feeds, feeders_of, counts_in}
use Rattle.rtl_check_levels.specs.Levels.{AreLevelsBy, IsHighest, level_of, seen_of}
use Rattle.rtl_check_nets.specs.Rows.{IsNetTable, StandsFor, itself, behind}

pub some_same : {a b : ℕ} → Some a ≡ Some b → a ≡ b
some_same e = cc

-- what looks at something may change behind others
pub looks_derived : (net : Netlist) (n m : ℕ) → LooksAt net n m → IsDerived net n
looks_derived net n m l = (l.driver, l.place, l.drives, l.net_is, by l.looks)
  where
    by : (IsCombinational net l.driver × Contains ((process net l.driver).looks l.place) m) ⊎ IsResetBy net l.driver l.place m
        → IsCombinational net l.driver ⊎ ((r : ℕ) × IsResetBy net l.driver l.place r)
    by s = elim s [ inl c ↦ inl c.0 | inr r ↦ inr (m, r) ]

module _ (net : Netlist) (table : Table) (counting : Counting) (levels from : List (Option ℕ)) (greatest : ℕ) (W : IsWired net)
    (t : IsNetTable net table (counts_in counting)) (h : AreLevelsBy counting table levels from greatest) where
  abbrev nets : ℕ
  nets = length net.start

  pub derived_there : (n : ℕ) → IsDerived net n → n < nets
  derived_there n (p, place, has, is, _) = subst (λ (m : ℕ). m < nets) is (W.targets_are_nets p place has)

  -- what a row stands on: its level, or the level below it where it counts, and the highest of those that feed it
  pub counted : (row level : ℕ) → row < length table → level_of levels row ≡ Some level → IsDerived net row
      → (below : ℕ) × (level ≡ suc below) × IsHighest counting (feeders_of table row) levels from below (get_or from row None)
  counted row level l e d =
      let (other, is, (below, same, high)) = h.each row (t.each_row row l) in
      let counts = (t.counts row).1 d in
      let up : other ≡ suc below = subst (λ (b : Bool). other ≡ (if b then suc below else below)) counts same in
      (below, some_same (sym e ∙ is) ∙ up, high)

  pub uncounted : (row level : ℕ) → row < length table → level_of levels row ≡ Some level → counts_in counting row ≡ false
      → IsHighest counting (feeders_of table row) levels from level (get_or from row None)
  uncounted row level l e off =
      let (other, is, (below, same, high)) = h.each row (t.each_row row l) in
      let at : other ≡ below = subst (λ (b : Bool). other ≡ (if b then suc below else below)) off same in
      subst (λ (k : ℕ). IsHighest counting (feeders_of table row) levels from k (get_or from row None)) (sym (some_same (sym e ∙ is) ∙ at)) high

  hub_no : (hub : ℕ) → nets ≤ hub → counts_in counting hub ≡ false
  hub_no hub past = go (cases_Bool (counts_in counting hub))
    where
      go : (counts_in counting hub ≡ true) ⊎ (counts_in counting hub ≡ false) → counts_in counting hub ≡ false
      go (inl here) = let l = derived_there hub ((t.counts hub).0 here) in absurd (omega arith)
      go (inr off) = off

  seen_self : (row : ℕ) → counts_in counting row ≡ true → seen_of counting from row ≡ Some row
  seen_self row here = ap (λ (b : Bool). if b then Some row else get_or from row None) here

  seen_through : (row : ℕ) → counts_in counting row ≡ false → seen_of counting from row ≡ get_or from row None
  seen_through row off = ap (λ (b : Bool). if b then Some row else get_or from row None) off

  -- a row of a level above 0 is seen as a net of that level, which it stands for
  pub seen_net : (fuel row level : ℕ) → row < fuel → row < length table → level_of levels row ≡ Some level → level ≢ 0
      → (n : ℕ) × (seen_of counting from row ≡ Some n) × StandsFor nets table n row × (level_of levels n ≡ Some level)
  seen_net zero row level l there e some = absurd (omega arith)
  seen_net (suc fuel) row level l there e some = by (λ p under inside at. seen_net fuel p level under inside at some) (cases_Bool (counts_in counting row)) (cases_lt row nets)
    where
      met : ((p : ℕ) → p < fuel → p < length table → level_of levels p ≡ Some level → (n : ℕ) × (seen_of counting from p ≡ Some n) × StandsFor nets table n p × (level_of levels n ≡ Some level)) → counts_in counting row ≡ false → (o : Option ℕ) → get_or from row None ≡ o
          → MatchOption o (level ≡ 0) (λ f. (level ≢ 0) × ((p : ℕ) × Contains (feeders_of table row) p × (level_of levels p ≡ Some level) × (seen_of counting from p ≡ Some f)))
          → (row < nets) ⊎ (nets ≤ row) → (n : ℕ) × (seen_of counting from row ≡ Some n) × StandsFor nets table n row × (level_of levels n ≡ Some level)
      met again off None is z where_ = absurd (some z)
      met again off (Some f) is (ne, (p, feeds, at, seen)) (inl m) =
          let here = (t.counts row).1 (t.unfed row p m feeds) in let k : true ≡ false = sym here ∙ off in absurd cc
      met again off (Some f) is (ne, (p, feeds, at, seen)) (inr past) =
          let below = t.hubs p row past feeds in
          let (n, named, stands, has) = again p (omega arith) (t.within p row feeds) at in
          let same : f ≡ n = some_same (sym seen ∙ named) in
          (n, seen_through row off ∙ is ∙ ap (λ (k : ℕ). Some k) same, behind row p past feeds stands, has)

      by : ((p : ℕ) → p < fuel → p < length table → level_of levels p ≡ Some level → (n : ℕ) × (seen_of counting from p ≡ Some n) × StandsFor nets table n p × (level_of levels n ≡ Some level)) → (counts_in counting row ≡ true) ⊎ (counts_in counting row ≡ false) → (row < nets) ⊎ (nets ≤ row) → (n : ℕ) × (seen_of counting from row ≡ Some n) × StandsFor nets table n row × (level_of levels n ≡ Some level)
      by again (inl here) where_ = (row, seen_self row here, itself (derived_there row ((t.counts row).0 here)), e)
      by again (inr off) where_ = met again off (get_or from row None) refl (uncounted row level there e off).met where_

  -- no net that a row stands for is above its level, and of those at its level none is lower than the one that is seen
  pub most : (m row : ℕ) → StandsFor nets table m row → row < length table → (level : ℕ) → level_of levels row ≡ Some level
      → (at : ℕ) × (level_of levels m ≡ Some at) × (at ≤ level) × (at ≡ level → level ≢ 0 → IfSome (seen_of counting from row) (λ s. s ≤ m))
  most m row (itself l) there level e = (level, e, omega arith, λ _ some. own (cases_Bool (counts_in counting m)) some)
    where
      own : (counts_in counting m ≡ true) ⊎ (counts_in counting m ≡ false) → level ≢ 0 → IfSome (seen_of counting from m) (λ s. s ≤ m)
      own (inl here) some = subst (λ (o : Option ℕ). IfSome o (λ s. s ≤ m)) (sym (seen_self m here)) (omega arith)
      own (inr off) some =
          let (n, seen, stands, has) = seen_net (suc m) m level (omega arith) there e some in
          let k = (uncounted m level there e off).met in
          none (get_or from m None) (seen_through m off) k some
        where
          none : (o : Option ℕ) → seen_of counting from m ≡ o
              → MatchOption o (level ≡ 0) (λ f. (level ≢ 0) × ((p : ℕ) × Contains (feeders_of table m) p × (level_of levels p ≡ Some level) × (seen_of counting from p ≡ Some f)))
              → level ≢ 0 → IfSome (seen_of counting from m) (λ s. s ≤ m)
          none None is z some = absurd (some z)
          none (Some f) is (ne, (p, feeds, at, seen)) some =
              let here = (t.counts m).1 (t.unfed m p l feeds) in let k : true ≡ false = sym here ∙ off in absurd cc
  most m row (behind hub p past feeds stands) there level e =
      let off = hub_no hub past in
      let high = uncounted hub level there e off in
      let (b, is, low, none) = high.each p feeds in
      let (at, has, l, k) = most m p stands (t.within p hub feeds) b is in (
        at,
        has,
        omega arith,
        λ same some. rw (seen_through hub off)
            (through (get_or from hub None) (seen_of counting from p) (none (omega arith)) (k (omega arith) (let z : b ≡ level = omega arith in λ y. some (sym z ∙ y)))
            (let (n, seen, stands', has') = seen_net (suc p) p b (omega arith) (t.within p hub feeds) is (let z : b ≡ level = omega arith in λ y. some (sym z ∙ y)) in (n, seen))),
      )
    where
      through : (o seen : Option ℕ) → IfSome o (λ f. IfSome seen (λ s. f ≤ s)) → IfSome seen (λ s. s ≤ m) → ((n : ℕ) × (seen ≡ Some n)) → IfSome o (λ f. f ≤ m)
      through None seen a b c = tt
      through (Some f) None a b (n, c) = absurd cc
      through (Some f) (Some s) a b c = omega arith
