-- The levels of processes, one after another, by those of the nets that they are sensitive to.
use Rattle.std.proofs.Common.{◌≡◌, ◌≢◌, ℕ, zero, suc, pred, ◌+◌, ◌<◌, ◌≤◌, ◌⊎◌, inl, inr, List, [], ◌∷◌, ◌++◌, length, get_or, max, take, Option, Some, None, refl, sym, ap, subst, ◌∙◌, arith, Contains}
use Rattle.std.specs.Prelude.{IfSome, IsSome, MatchOption, unwrap_or}
use Rattle.std.proofs.lemmas.Bool.{cases_eq, cases_lt}
use Rattle.std.proofs.lemmas.List.{get_or_append_left, get_or_past, get_or_push, get_or-take, length-take, length_push}
use Rattle.rtl_model.specs.simulation.Netlist.{Netlist, Edge, process}
use Rattle.rtl_model.specs.simulation.Accepted.{HasNoNetLoop, IsByNets, LooksAt}
use Rattle.rtl_model.specs.simulation.Elaborated.{IsWired}
use Rattle.rtl_model.specs.simulation.Laws.{NetLevelsAreShown}
use Rattle.rtl_model.specs.simulation.NetLevels.{AreLevelsByNets, IsGreatestWoken, IsLevelByNets, IsLowest, IsNetLevel, IsNetReport, MayActLater, ShowNetLevels, bound_by_nets, level_below}
use Rattle.rtl_model.specs.simulation.Report.{AreClocks}
use Rattle.rtl_check_levels.specs.declared.counting.Counting.TheVariants.{Each}
use Rattle.rtl_check_levels.specs.declared.highest.Highest.{Highest}
use Rattle.rtl_check_levels.specs.declared.order.Levels.{Levels}
use Rattle.rtl_check_levels.specs.Levels.{IsHighest, level_of, seen_of}
use Rattle.rtl_check_nets.specs.Rows.{AreLevelsOfRows, HaveLevels, IsBelow}
use Rattle.rtl_check_nets.proofs.Ladders.{level_fits}
use Rattle.rtl_check_nets.proofs.RowLevels.{some_same}
use Rattle.rtl_check_nets.proofs.ShownNets as shows
use Rattle.rtl_check_nets.proofs.ShownNets.{one_level}

-- ---- levels of processes so far

-- the level and from of process p stand on the highest of the nets that it is sensitive to
abbrev pub IsPlaced : Netlist → Levels → (p : ℕ) → (level from : Option ℕ) → Type 0
IsPlaced net rows p None from = (MayActLater net p → ⊥) × (from ≡ None)
IsPlaced net rows p (Some level) from =
    MayActLater net p × ((below : ℕ) × (level ≡ suc below) × IsHighest Each (process net p).wakes rows.levels.items rows.from.items below from)

-- of processes below p
pub record IsLeveled (net : Netlist) (rows : Levels) (p : ℕ) (levels from : List (Option ℕ)) (greatest : ℕ) : Type 0 where
  pub many : length levels ≡ p
  pub many_from : length from ≡ p
  pub each : (q : ℕ) → q < p → IsPlaced net rows q (get_or levels q None) (get_or from q None)
  pub none_above : (q level : ℕ) → get_or levels q None ≡ Some level → level ≤ greatest
  pub met : greatest ≢ 0 → (q : ℕ) × (get_or levels q None ≡ Some greatest)

module _ (net : Netlist) (rows : Levels) (p : ℕ) (levels from : List (Option ℕ)) (greatest : ℕ) (s : IsLeveled net rows p levels from greatest) where
  placed : (level at : Option ℕ) → IsPlaced net rows p level at → (q : ℕ) → q < p + 1 → IsPlaced net rows q (get_or (levels ++ level ∷ []) q None) (get_or (from ++ at ∷ []) q None)
  placed level at is q h = go (cases_lt q p)
    where
      go : (q < p) ⊎ (p ≤ q) → IsPlaced net rows q (get_or (levels ++ level ∷ []) q None) (get_or (from ++ at ∷ []) q None)
      go (inl l) =
          let m = s.many in
          let n = s.many_from in
          let e = get_or_append_left levels (level ∷ []) None q (omega arith) in
          let f = get_or_append_left from (at ∷ []) None q (omega arith) in
          subst (λ (x : Option ℕ). IsPlaced net rows q x (get_or (from ++ at ∷ []) q None)) (sym e) (subst (λ (x : Option ℕ). IsPlaced net rows q (get_or levels q None) x) (sym f) (s.each q l))
      go (inr l) =
          let m = s.many in
          let n = s.many_from in
          let same : p ≡ q = omega arith in
          let e = get_or_push levels level None q (omega arith) in
          let f = get_or_push from at None q (omega arith) in
          subst (λ (x : Option ℕ). IsPlaced net rows q x (get_or (from ++ at ∷ []) q None)) (sym e) (subst (λ (x : Option ℕ). IsPlaced net rows q level x) (sym f) (subst (λ (r : ℕ). IsPlaced net rows r level at) same is))

  earlier : (level : Option ℕ) (q k : ℕ) → get_or levels q None ≡ Some k → get_or (levels ++ level ∷ []) q None ≡ Some k
  earlier level q k is = go (cases_lt q (length levels))
    where
      go : (q < length levels) ⊎ (length levels ≤ q) → get_or (levels ++ level ∷ []) q None ≡ Some k
      go (inl l) = get_or_append_left levels (level ∷ []) None q l ∙ is
      go (inr l) = let h : None ≡ Some k = sym (get_or_past levels q None l) ∙ is in absurd cc

  -- what has a level had it before, or it is the last one's
  either : (level : Option ℕ) (q k : ℕ) → get_or (levels ++ level ∷ []) q None ≡ Some k → (get_or levels q None ≡ Some k) ⊎ (level ≡ Some k)
  either level q k is = go (cases_lt q (length levels)) (cases_eq (length levels) q)
    where
      go : (q < length levels) ⊎ (length levels ≤ q) → (length levels ≡ q) ⊎ (length levels ≢ q) → (get_or levels q None ≡ Some k) ⊎ (level ≡ Some k)
      go (inl l) c = inl (sym (get_or_append_left levels (level ∷ []) None q l) ∙ is)
      go (inr l) (inl e) = inr (sym (get_or_push levels level None q e) ∙ is)
      go (inr l) (inr odd) =
          let past : length (levels ++ level ∷ []) ≤ q = (let n = length_push levels level in omega arith) in
          let h : None ≡ Some k = sym (get_or_past (levels ++ level ∷ []) q None past) ∙ is in
          absurd cc

  pub none_more : (MayActLater net p → ⊥) → IsLeveled net rows (p + 1) (levels ++ None ∷ []) (from ++ None ∷ []) greatest
  none_more never = record {
    many = (let n = length_push levels None in let m = s.many in omega arith);
    many_from = (let n = length_push from None in let m = s.many_from in omega arith);
    each = placed None None (never, refl);
    none_above = λ q k is. above q k (either None q k is);
    met = λ some. let (q, is) = s.met some in (q, earlier None q greatest is);
  }
    where
      above : (q k : ℕ) → (get_or levels q None ≡ Some k) ⊎ (None ≡ Some k) → k ≤ greatest
      above q k (inl is) = s.none_above q k is
      above q k (inr is) = absurd cc

  pub one_more : (below : Highest) → IsBelow net rows p (Some below)
      → IsLeveled net rows (p + 1) (levels ++ Some (below.level + 1) ∷ []) (from ++ below.row ∷ []) (max greatest (below.level + 1))
  one_more below (may, high) = record {
    many = (let n = length_push levels (Some (below.level + 1)) in let m = s.many in omega arith);
    many_from = (let n = length_push from below.row in let m = s.many_from in omega arith);
    each = placed (Some (below.level + 1)) below.row (may, (below.level, omega arith, high));
    none_above = λ q k is. above q k (either (Some (below.level + 1)) q k is);
    met = λ some. top (cases_lt greatest (below.level + 1));
  }
    where
      above : (q k : ℕ) → (get_or levels q None ≡ Some k) ⊎ (Some (below.level + 1) ≡ Some k) → k ≤ max greatest (below.level + 1)
      above q k (inl is) = let l = s.none_above q k is in omega arith
      above q k (inr is) = let e = some_same is in omega arith

      top : (greatest < below.level + 1) ⊎ (below.level + 1 ≤ greatest) → (q : ℕ) × (get_or (levels ++ Some (below.level + 1) ∷ []) q None ≡ Some (max greatest (below.level + 1)))
      top (inl l) =
          let e : below.level + 1 ≡ max greatest (below.level + 1) = omega arith in
          (length levels, get_or_push levels (Some (below.level + 1)) None (length levels) refl ∙ ap (λ (k : ℕ). Some k) e)
      top (inr l) =
          let e : greatest ≡ max greatest (below.level + 1) = omega arith in
          let (q, is) = s.met (omega arith) in
          (q, earlier (Some (below.level + 1)) q greatest is ∙ ap (λ (k : ℕ). Some k) e)

-- ---- the nets' levels

-- the levels of nets, those of their rows
pub record AreNumbers (net : Netlist) (rows : Levels) (ns : List ℕ) : Type 0 where
  pub many : length ns ≡ length net.start
  pub are : (n : ℕ) → n < length net.start → get_or ns n 0 ≡ unwrap_or (level_of rows.levels.items n) 0

pub numbers : (net : Netlist) (rows : Levels) (ns : List ℕ) (nets : ℕ) (levels : List (Option ℕ)) → nets ≡ length net.start → levels ≡ rows.levels.items → length ns ≡ nets
    → ((n : ℕ) → n < nets → get_or ns n 0 ≡ unwrap_or (level_of levels n) 0) → AreNumbers net rows ns
numbers net rows ns nets levels e f many are = record {
  many = many ∙ e;
  are = λ n h. are n (omega arith) ∙ ap (λ (ls : List (Option ℕ)). unwrap_or (level_of ls n) 0) f;
}

module _ (net : Netlist) (rows : Levels) (W : IsWired net) (wakes_there : (p n : ℕ) → p < length net.processes → Contains (process net p).wakes n → n < length net.start) (a : AreLevelsOfRows net rows) (laws : NetLevelsAreShown)
    (ns : List ℕ) (ls : AreNumbers net rows ns) where
  shown : ShowNetLevels net ns
  shown = shows.shown net a.table a.counting rows.levels.items rows.from.items rows.greatest W a.is_table a.are_levels ns ls.many ls.are

  pub no_loop : HasNoNetLoop net
  no_loop = (laws net ns).1 shown

  level : (n : ℕ) → IsNetLevel net n (get_or ns n 0)
  level = (laws net ns).0.1 shown

  number_is : (n k : ℕ) → n < length net.start → level_of rows.levels.items n ≡ Some k → get_or ns n 0 ≡ k
  number_is n k h e = ls.are n h ∙ ap (λ (o : Option ℕ). unwrap_or o 0) e

  -- no level is above the number of nets
  net_fits : (n : ℕ) → get_or ns n 0 ≤ length net.start
  net_fits n = level_fits (λ q. get_or ns q 0) (length net.start) there (λ q k e. let (m, _, f) = shown.from_below q k e in (m, f)) n (get_or ns n 0) refl
    where
      there : (q k : ℕ) → get_or ns q 0 ≡ suc k → q < length net.start
      there q k e = go (cases_lt q (length net.start))
        where
          go : (q < length net.start) ⊎ (length net.start ≤ q) → q < length net.start
          go (inl l) = l
          go (inr l) = let h : 0 ≡ suc k = sym (get_or_past ns q 0 (let m = ls.many in omega arith)) ∙ e in absurd (omega arith)

  -- ---- the nets that a process is sensitive to

  module _ (p : ℕ) (here : p < length net.processes) (below : ℕ) (from : Option ℕ) (high : IsHighest Each (process net p).wakes rows.levels.items rows.from.items below from) where
    found : below ≢ 0 → (n : ℕ) × (from ≡ Some n) × Contains (process net p).wakes n × (get_or ns n 0 ≡ below)
    found some = go from refl high.met
      where
        go : (o : Option ℕ) → from ≡ o
            → MatchOption o (below ≡ 0) (λ f. (below ≢ 0) × ((n : ℕ) × Contains (process net p).wakes n × (level_of rows.levels.items n ≡ Some below) × (seen_of Each rows.from.items n ≡ Some f)))
            → (n : ℕ) × (from ≡ Some n) × Contains (process net p).wakes n × (get_or ns n 0 ≡ below)
        go None e z = absurd (some z)
        go (Some f) e (ne, (n, c, at, seen)) = (n, e ∙ sym seen, c, number_is n below (wakes_there p n here c) at)

    pub below_fits : below ≤ length net.start
    below_fits = go (cases_eq below 0)
      where
        go : (below ≡ 0) ⊎ (below ≢ 0) → below ≤ length net.start
        go (inl z) = omega arith
        go (inr some) = let (n, _, _, at) = found some in let l = net_fits n in omega arith

    none_above : (n k : ℕ) → Contains (process net p).wakes n → IsNetLevel net n k
        → (k ≤ below) × (k ≡ below → IfSome from (λ f. f ≤ n))
    none_above n k c at =
        let (b, named, low, lowest) = high.each n c in
        let same : k ≡ b = one_level net n k (get_or ns n 0) at (level n) ∙ number_is n b (wakes_there p n here c) named in
        (omega arith, λ top. lowest (omega arith))

    greatest_woken : IsGreatestWoken net p below
    greatest_woken = record {
      none_above = λ n k c at. (none_above n k c at).0;
      met = λ some. let (n, _, c, at) = found some in (n, c, subst (IsNetLevel net n) at (level n));
    }

    lowest_woken : IsLowest net (λ n. Contains (process net p).wakes n) below from
    lowest_woken = go below refl (cases_eq below 0)
      where
        go : (b : ℕ) → below ≡ b → (below ≡ 0) ⊎ (below ≢ 0) → IsLowest net (λ n. Contains (process net p).wakes n) b from
        go zero e c = nothing from high.met
          where
            nothing : (o : Option ℕ) → MatchOption o (below ≡ 0) (λ f. (below ≢ 0) × ((n : ℕ) × Contains (process net p).wakes n × (level_of rows.levels.items n ≡ Some below) × (seen_of Each rows.from.items n ≡ Some f))) → o ≡ None
            nothing None z = refl
            nothing (Some f) m = absurd (m.0 e)
        go (suc b) e (inl z) = absurd (omega arith)
        go (suc b) e (inr some) =
            let (n, at, c, has) = found some in
            subst (IsLowest net (λ n. Contains (process net p).wakes n) (suc b)) (sym at)
            (c, subst (IsNetLevel net n) (has ∙ e) (level n), λ m less d at_m. let l = subst (λ (o : Option ℕ). IfSome o (λ f. f ≤ m)) at ((none_above m (suc b) d at_m).1 (sym e)) in omega arith)

  -- ---- the report

  of_process : (p : ℕ) → p < length net.processes → (o from : Option ℕ) → IsPlaced net rows p o from
      → IsLevelByNets net p o × IsLowest net (λ n. Contains (process net p).wakes n) (level_below o) from
  of_process p here None from (never, e) = (never, e)
  of_process p here (Some zero) from (may, (below, e, high)) = absurd (omega arith)
  of_process p here (Some (suc k)) from (may, (below, e, high)) =
      let same : below ≡ k = omega arith in (
        (may, subst (IsGreatestWoken net p) same (greatest_woken p here below from high)),
        subst (λ (b : ℕ). IsLowest net (λ n. Contains (process net p).wakes n) b from) same (lowest_woken p here below from high),
      )

  module _ (levels from looks : List (Option ℕ)) (greatest : ℕ) (s : IsLeveled net rows (length net.processes) levels from greatest) (looks_are : looks ≡ take (length net.start) rows.from.items) where
    pub fits : greatest ≤ length net.start + 1
    fits = go (cases_eq greatest 0)
      where
        at : (q : ℕ) → q < length net.processes → (o : Option ℕ) → get_or levels q None ≡ o → IsPlaced net rows q o (get_or from q None) → o ≡ Some greatest → greatest ≤ length net.start + 1
        at q here None e placed same = cc
        at q here (Some k) e (may, (below, up, high)) same = let l = below_fits q here below (get_or from q None) high in let g = some_same same in omega arith

        go : (greatest ≡ 0) ⊎ (greatest ≢ 0) → greatest ≤ length net.start + 1
        go (inl z) = omega arith
        go (inr some) = let (q, e) = s.met some in inside q e (cases_lt q (length net.processes))
          where
            inside : (q : ℕ) → get_or levels q None ≡ Some greatest → (q < length net.processes) ⊎ (length net.processes ≤ q) → greatest ≤ length net.start + 1
            inside q e (inl here) = at q here (get_or levels q None) refl (s.each q here) e
            inside q e (inr past) = let m = s.many in let h : None ≡ Some greatest = sym (get_or_past levels q None (omega arith)) ∙ e in absurd cc

    look_at : (n : ℕ) → n < length net.start → IsLowest net (λ m. LooksAt net n m) (pred (get_or ns n 0)) (get_or looks n None)
    look_at n h =
        let e = ap (λ (xs : List (Option ℕ)). get_or xs n None) looks_are ∙ get_or-take (length net.start) rows.from.items n None h in
        subst (IsLowest net (λ m. LooksAt net n m) (pred (get_or ns n 0))) (sym e)
        (shows.lowest net a.table a.counting rows.levels.items rows.from.items rows.greatest W a.is_table a.are_levels ns ls.many ls.are level n h)

    pub reported : (clocks : List (ℕ × Edge)) → IsByNets net → AreClocks net clocks → IsNetReport net levels from ns looks clocks (bound_by_nets net greatest)
    reported clocks by_nets clocks_are = record {
      by_nets = by_nets;
      greatest = greatest;
      levels_are = record {
        each_net = ls.many;
        of_nets = λ n h. level n;
        each_process = s.many;
        of_processes = λ p h. (of_process p h (get_or levels p None) (get_or from p None) (s.each p h)).0;
        none_above = s.none_above;
        met = s.met;
      };
      each_from = s.many_from;
      from_is = λ p h. (of_process p h (get_or levels p None) (get_or from p None) (s.each p h)).1;
      each_look = ap length looks_are ∙ (let t = length-take (length net.start) rows.from.items in let e = a.are_levels.each_from in let f = a.is_table.each_net in omega arith);
      looks_are = look_at;
      clocks_are = clocks_are;
      bound_is = refl;
    }
