-- An accepted netlist has no more than one report and one bound, and no netlist more than one report by nets.
use Rattle.std.proofs.Common.{◌≡◌, ◌≢◌, ℕ, zero, suc, pred, ◌<◌, ◌≤◌, List, length, get_or, Option, Some, None, refl, sym, ap, ◌∙◌, subst, arith, ◌⊎◌, inl, inr, Contains}
use Rattle.std.proofs.lemmas.List.{ext_get_or}
use Rattle.std.proofs.lemmas.Bool.{cases_order}
use Rattle.rtl_model.proofs.basics.Rising.{same_elements}
use Rattle.rtl_model.proofs.basics.Chains.{one_length}
use Rattle.rtl_model.specs.simulation.Accepted.{LooksAt}
use Rattle.rtl_model.specs.simulation.Netlist.{Edge, IsClockedBy, IsCombinational, Netlist, process}
use Rattle.rtl_model.specs.simulation.Levels.{AreLevels, bound, IsLevel}
use Rattle.rtl_model.specs.simulation.NetLevels.{AreLevelsByNets, bound_by_nets, ByNets, ByProcesses, IsDerived, IsGreatestWoken, IsLevelByNets, IsLowest, IsNetLevel, IsNetReport, level_below}
use Rattle.rtl_model.specs.simulation.Report.{AreClocks, clock_key, IsFrom, IsReport}
use Rattle.rtl_model.specs.simulation.Laws.{OneBound, OneReport, OneNetReport}
use Rattle.rtl_model.proofs.simulation.Faultless.{Faultless, faultless}
use Rattle.rtl_model.proofs.simulation.Levels.{same_level}
use Rattle.rtl_model.proofs.simulation.Faultless.{kinds_below}

not_below_one : (net : Netlist) (p n : ℕ) → IsLevel net p n → 1 ≡ suc n → ⊥
not_below_one net p zero lower e = lower.reached
not_below_one net p (suc n) lower e = absurd (omega arith)

-- the greatest of some levels
not_greater : (levels : List (Option ℕ)) (m n : ℕ) → (m ≢ 0 → (p : ℕ) × (get_or levels p None ≡ Some m)) → ((p level : ℕ) → get_or levels p None ≡ Some level → level ≤ n) → m ≤ n
not_greater levels zero n met none = omega arith
not_greater levels (suc m) n met none = let (p, e) = met (λ z. omega arith) in none p (suc m) e

module _ (net : Netlist) (clocks clocks' : List (ℕ × Edge)) (C : AreClocks net clocks) (D : AreClocks net clocks') where
  same_clocks : clocks ≡ clocks'
  same_clocks = same_elements clock_key clocks clocks' C.rise D.rise (λ (n, edge) c. (D.are n edge).1 ((C.are n edge).0 c)) (λ (n, edge) c. (C.are n edge).1 ((D.are n edge).0 c))

-- ---- of reports by processes

module _ (net : Netlist) (A : Faultless net) where
  same_levels : (v w : List (Option ℕ)) (m n : ℕ) → AreLevels net v m → AreLevels net w n → v ≡ w
  same_levels v w m n V W = ext_get_or None v w (V.each_process ∙ sym W.each_process) (λ p l. go p (kinds_below net A p (let e = V.each_process in omega arith)))
    where
      go : (p : ℕ) → IsCombinational net p ⊎ ((clock : ℕ) × (edge : Edge) × IsClockedBy net p clock edge) → get_or v p None ≡ get_or w p None
      go p (inl c) =
          let (a, e, is) = V.combinational p c in
          let (b, f, is') = W.combinational p c in
          e ∙ ap (λ (k : ℕ). Some k) (same_level net p a b is is') ∙ sym f
      go p (inr (clock, edge, is)) = V.clocked p clock edge is ∙ sym (W.clocked p clock edge is)

  same_greatest : (v w : List (Option ℕ)) (m n : ℕ) → AreLevels net v m → AreLevels net w n → v ≡ w → m ≡ n
  same_greatest v w m n V W' same =
      let W : AreLevels net v n = subst (λ (u : List (Option ℕ)). AreLevels net u n) (sym same) W' in
      let l = not_greater v m n V.met W.none_above in
      let k = not_greater v n m W.met V.none_above in
      omega arith

  same_from : (q : ℕ) (o u : Option ℕ) → IsFrom net q o → IsFrom net q u → o ≡ u
  same_from q None None a b = refl
  same_from q None (Some p) a (n, is, lower, feeds, least) = absurd (not_below_one net p n lower (same_level net q 1 (suc n) a is))
  same_from q (Some p) None (n, is, lower, feeds, least) b = absurd (not_below_one net p n lower (same_level net q 1 (suc n) b is))
  same_from q (Some p) (Some r) (n, is, lower, feeds, least) (m, is', lower', feeds', least') = go (cases_order p r)
    where
      same : n ≡ m
      same = let e = same_level net q (suc n) (suc m) is is' in omega arith

      go : (p ≡ r) ⊎ ((p < r) ⊎ (r < p)) → Some p ≡ Some r
      go (inl e) = ap (λ (k : ℕ). Some k) e
      go (inr (inl l)) = absurd (least' p l (subst (λ (k : ℕ). IsLevel net p k) same lower) feeds)
      go (inr (inr l)) = absurd (least r l (subst (λ (k : ℕ). IsLevel net r k) (sym same) lower') feeds')

  module _ (levels levels' from from' : List (Option ℕ)) (clocks clocks' : List (ℕ × Edge)) (most most' : ℕ) (R : IsReport net levels from clocks most) (S : IsReport net levels' from' clocks' most') where
    levels_same : levels ≡ levels'
    levels_same = same_levels levels levels' R.greatest S.greatest R.levels_are S.levels_are

    from_same : from ≡ from'
    from_same = ext_get_or None from from' (R.rest.each_from ∙ sym S.rest.each_from) (λ p l. go p (kinds_below net A p (let e = R.rest.each_from in omega arith)))
      where
        go : (p : ℕ) → IsCombinational net p ⊎ ((clock : ℕ) × (edge : Edge) × IsClockedBy net p clock edge) → get_or from p None ≡ get_or from' p None
        go p (inl c) = same_from p _ _ (R.from_combinational p c) (S.from_combinational p c)
        go p (inr (clock, edge, is)) = R.rest.from_clocked p clock edge is ∙ sym (S.rest.from_clocked p clock edge is)

    most_same : most ≡ most'
    most_same = R.rest.bound_is ∙ ap (bound net) (same_greatest levels levels' R.greatest S.greatest R.levels_are S.levels_are levels_same) ∙ sym S.rest.bound_is

pub one_report : OneReport
one_report net A' levels levels' from from' clocks clocks' most most' R S =
    let A = faultless net A' in (
      levels_same net A levels levels' from from' clocks clocks' most most' R S,
      from_same net A levels levels' from from' clocks clocks' most most' R S,
      same_clocks net clocks clocks' R.rest.clocks_are S.rest.clocks_are,
      most_same net A levels levels' from from' clocks clocks' most most' R S,
    )

-- ---- of reports by nets

module _ (net : Netlist) where
  same_net_level : (n a b : ℕ) → IsNetLevel net n a → IsNetLevel net n b → a ≡ b
  same_net_level n a b = one_length (λ m n. LooksAt net n m) (IsDerived net) n a b

  not_more : (p a b : ℕ) → IsGreatestWoken net p a → IsGreatestWoken net p b → a ≤ b
  not_more p zero b x y = omega arith
  not_more p (suc a) b x y = let (n, w, is) = x.met (λ z. omega arith) in y.none_above n (suc a) w is

  same_by_nets : (p : ℕ) (o u : Option ℕ) → IsLevelByNets net p o → IsLevelByNets net p u → o ≡ u
  same_by_nets p None None x y = refl
  same_by_nets p None (Some zero) x y = absurd y
  same_by_nets p None (Some (suc b)) x y = absurd (x y.0)
  same_by_nets p (Some zero) u x y = absurd x
  same_by_nets p (Some (suc a)) None x y = absurd (y x.0)
  same_by_nets p (Some (suc a)) (Some zero) x y = absurd y
  same_by_nets p (Some (suc a)) (Some (suc b)) x y =
      let l = not_more p a b x.1 y.1 in
      let k = not_more p b a y.1 x.1 in
      let same : a ≡ b = omega arith in
      ap (λ (n : ℕ). Some (suc n)) same

  same_lowest : (IsAmong : ℕ → Type 0) (level : ℕ) (o u : Option ℕ) → IsLowest net IsAmong level o → IsLowest net IsAmong level u → o ≡ u
  same_lowest IsAmong zero o u x y = x ∙ sym y
  same_lowest IsAmong (suc below) None u x y = absurd x
  same_lowest IsAmong (suc below) (Some n) None x y = absurd y
  same_lowest IsAmong (suc below) (Some n) (Some m) (among, is, least) (among', is', least') = go (cases_order n m)
    where
      go : (n ≡ m) ⊎ ((n < m) ⊎ (m < n)) → Some n ≡ Some m
      go (inl e) = ap (λ (k : ℕ). Some k) e
      go (inr (inl l)) = absurd (least' n l among is)
      go (inr (inr l)) = absurd (least m l among' is')

  module _ (levels levels' : List (Option ℕ)) (nets nets' : List ℕ) (m n : ℕ) (V : AreLevelsByNets net levels nets m) (W : AreLevelsByNets net levels' nets' n) where
    levels_same_by_nets : levels ≡ levels'
    levels_same_by_nets = ext_get_or None levels levels' (V.each_process ∙ sym W.each_process)
        (λ p l. let e = V.each_process in let k : p < length net.processes = omega arith in same_by_nets p _ _ (V.of_processes p k) (W.of_processes p k))

    greatest_by_nets : m ≡ n
    greatest_by_nets =
        let U : AreLevelsByNets net levels nets' n = subst (λ (v : List (Option ℕ)). AreLevelsByNets net v nets' n) (sym levels_same_by_nets) W in
        let l = not_greater levels m n V.met U.none_above in
        let k = not_greater levels n m U.met V.none_above in
        omega arith

  module _ (levels levels' from from' : List (Option ℕ)) (nets nets' : List ℕ) (looks looks' : List (Option ℕ)) (clocks clocks' : List (ℕ × Edge)) (most most' : ℕ)
      (R : IsNetReport net levels from nets looks clocks most) (S : IsNetReport net levels' from' nets' looks' clocks' most') where
    levels_are_same : levels ≡ levels'
    levels_are_same = levels_same_by_nets levels levels' nets nets' R.greatest S.greatest R.levels_are S.levels_are

    nets_are_same : nets ≡ nets'
    nets_are_same = ext_get_or 0 nets nets' (R.levels_are.each_net ∙ sym S.levels_are.each_net)
        (λ n l. let e = R.levels_are.each_net in let k : n < length net.start = omega arith in same_net_level n _ _ (R.levels_are.of_nets n k) (S.levels_are.of_nets n k))

    froms_are_same : from ≡ from'
    froms_are_same = ext_get_or None from from' (R.each_from ∙ sym S.each_from)
        (λ p l. let e = R.each_from in at p (omega arith))
      where
        at : (p : ℕ) → p < length net.processes → get_or from p None ≡ get_or from' p None
        at p k =
            let other = subst (λ (v : List (Option ℕ)). IsLowest net (λ n. Contains (process net p).wakes n) (level_below (get_or v p None)) (get_or from' p None)) (sym levels_are_same) (S.from_is p k) in
            same_lowest (λ n. Contains (process net p).wakes n) (level_below (get_or levels p None)) _ _ (R.from_is p k) other

    looks_are_same : looks ≡ looks'
    looks_are_same = ext_get_or None looks looks' (R.each_look ∙ sym S.each_look)
        (λ n l. let e = R.each_look in at n (omega arith))
      where
        at : (n : ℕ) → n < length net.start → get_or looks n None ≡ get_or looks' n None
        at n k =
            let other = subst (λ (v : List ℕ). IsLowest net (λ m. LooksAt net n m) (pred (get_or v n 0)) (get_or looks' n None)) (sym nets_are_same) (S.looks_are n k) in
            same_lowest (λ m. LooksAt net n m) (pred (get_or nets n 0)) _ _ (R.looks_are n k) other

pub one_net_report : OneNetReport
one_net_report net levels levels' from from' nets nets' looks looks' clocks clocks' most most' R S = (
  levels_are_same net levels levels' from from' nets nets' looks looks' clocks clocks' most most' R S,
  froms_are_same net levels levels' from from' nets nets' looks looks' clocks clocks' most most' R S,
  nets_are_same net levels levels' from from' nets nets' looks looks' clocks clocks' most most' R S,
  looks_are_same net levels levels' from from' nets nets' looks looks' clocks clocks' most most' R S,
  same_clocks net clocks clocks' R.clocks_are S.clocks_are,
  R.bound_is ∙ ap (bound_by_nets net) (greatest_by_nets net levels levels' nets nets' R.greatest S.greatest R.levels_are S.levels_are) ∙ sym S.bound_is,
)

-- ---- of bounds

pub one_bound : OneBound
one_bound net m n a b A (ByProcesses v judged V is) (ByProcesses w judged' W is') =
    let same = same_levels net (faultless net A) v w m n V W in
    let greatest = same_greatest net (faultless net A) v w m n V W same in
    (greatest, is ∙ ap (bound net) greatest ∙ sym is')
one_bound net m n a b A (ByProcesses v judged V is) (ByNets w nets judged' W is') = absurd (judged judged')
one_bound net m n a b A (ByNets v nets judged V is) (ByProcesses w judged' W is') = absurd (judged' judged)
one_bound net m n a b A (ByNets v nets judged V is) (ByNets w nets' judged' W is') =
    let greatest = greatest_by_nets net v w nets nets' m n V W in
    (greatest, is ∙ ap (bound_by_nets net) greatest ∙ sym is')
