-- Levels and froms that each process stands by are those that a report shows, where each is clocked or combinational.
use Rattle.std.proofs.Common.{◌≡◌, ℕ, zero, suc, ◌<◌, ◌≤◌, List, length, get_or, refl, sym, ap, subst, ◌∙◌, arith, ◌⊎◌, inl, inr, Option, Some, None}
use Rattle.std.specs.Prelude.{MatchOption, IfSome}
use Rattle.std.proofs.lemmas.Bool.{cases_lt}
use Rattle.std.proofs.lemmas.List.{get_or_past}
use Rattle.rtl_model.specs.simulation.Netlist as m
use Rattle.rtl_model.specs.simulation.Netlist.{Netlist, Edge, IsCombinational, IsClockedBy, process}
use Rattle.rtl_model.specs.simulation.Accepted.{Feeds}
use Rattle.rtl_model.specs.simulation.Elaborated.{IsWired}
use Rattle.rtl_check.specs.Standing.{level_of, highest_of, StandsAs, Stands, ShowFroms, HasNoMixed}
use Rattle.rtl_check.proofs.Processes.{clock_there}
use Rattle.rtl_check.proofs.Highest.{Reaches, highest_is}

module _ (net : Netlist) (levels from : List (Option ℕ)) (wired : IsWired net) (clear : HasNoMixed net) where
  kinds : (p : ℕ) → p < length net.processes → IsCombinational net p ⊎ ((clock : ℕ) × ((edge : Edge) × IsClockedBy net p clock edge))
  kinds p l = go (process net p).kind refl
    where
      go : (k : m.ProcessKind) → (process net p).kind ≡ k → IsCombinational net p ⊎ ((clock : ℕ) × ((edge : Edge) × IsClockedBy net p clock edge))
      go m.Combinational e = inl (l, e)
      go (m.Clocked clock edge reset) e = inr (clock, (edge, (reset, e)))
      go m.Mixed e = absurd (clear p e)

  reaches : (p q : ℕ) → Feeds net p q → Reaches net levels p q
  reaches p q f = (f.place, f.drives, f.wakes)

  feeds : (p q : ℕ) → Reaches net levels p q → IsCombinational net p → IsCombinational net q → Feeds net p q
  feeds p q (place, has, wakes) a b = record { feeder = a; fed = b; place = place; drives = has; wakes = wakes }

  -- what has a level is combinational
  has_level : length levels ≡ length net.processes → ((p clock : ℕ) (edge : Edge) → IsClockedBy net p clock edge → level_of levels p ≡ None)
      → (p b : ℕ) → level_of levels p ≡ Some b → IsCombinational net p
  has_level many none p b e = go (cases_lt p (length levels))
    where
      by : IsCombinational net p ⊎ ((clock : ℕ) × ((edge : Edge) × IsClockedBy net p clock edge)) → IsCombinational net p
      by (inl c) = c
      by (inr (clock, (edge, k))) = let h : Some b ≡ None = sym e ∙ none p clock edge k in absurd cc

      go : (p < length levels) ⊎ (length levels ≤ p) → IsCombinational net p
      go (inl l) = by (kinds p (omega (arith, l, many)))
      go (inr l) = let h : None ≡ Some b = sym (get_or_past levels p None l) ∙ e in absurd cc

  same : (q a b : ℕ) → level_of levels q ≡ Some a → level_of levels q ≡ Some b → a ≡ b
  same q a b e d = let h : Some a ≡ Some b = sym e ∙ d in cc

  -- ---- from each process's standing

  module _ (many : length levels ≡ length net.processes) (many_from : length from ≡ length net.processes) (all : (q : ℕ) → q < length net.processes → Stands net levels from q) where
    combinational : (q : ℕ) → IsCombinational net q → (level_of levels q ≡ Some (suc (highest_of net levels q).level)) × (get_or from q None ≡ (highest_of net levels q).process)
    combinational q c = subst (λ (k : m.ProcessKind). StandsAs (highest_of net levels q) k (level_of levels q) (get_or from q None)) c.1 (all q c.0)

    clocked : (p clock : ℕ) (edge : Edge) → IsClockedBy net p clock edge → (level_of levels p ≡ None) × (get_or from p None ≡ None)
    clocked p clock edge (reset, is) =
        subst (λ (k : m.ProcessKind). StandsAs (highest_of net levels p) k (level_of levels p) (get_or from p None)) is (all p (clock_there net p clock (edge, (reset, is))))

    placed : (p b : ℕ) → level_of levels p ≡ Some b → IsCombinational net p
    placed p b e = has_level many (λ q clock edge k. (clocked q clock edge k).0) p b e

    rises : (p q a b : ℕ) → Feeds net p q → level_of levels p ≡ Some a → level_of levels q ≡ Some b → a < b
    rises p q a b f ea eb =
        let k = same q b (suc (highest_of net levels q).level) eb (combinational q f.fed).0 in
        let l = ((highest_is net levels wired q).each p a (reaches p q f) ea).0 in
        omega (arith, k, l)

    from_below : (q below : ℕ) → IsCombinational net q → level_of levels q ≡ Some (suc (suc below))
        → (p : ℕ) × (get_or from q None ≡ Some p) × Feeds net p q × (level_of levels p ≡ Some (suc below))
    from_below q below c e = go (highest_of net levels q).process refl
      where
        up : (highest_of net levels q).level ≡ suc below
        up = let k = same q (suc (suc below)) (suc (highest_of net levels q).level) e (combinational q c).0 in omega (arith, k)

        go : (o : Option ℕ) → (highest_of net levels q).process ≡ o → (p : ℕ) × (get_or from q None ≡ Some p) × Feeds net p q × (level_of levels p ≡ Some (suc below))
        go None is =
            let z : (highest_of net levels q).level ≡ 0 =
            subst (λ (o : Option ℕ). MatchOption o ((highest_of net levels q).level ≡ 0) (λ f. Reaches net levels f q × (level_of levels f ≡ Some (highest_of net levels q).level))) is
            (highest_is net levels wired q).met in
            absurd (omega (arith, z, up))
        go (Some f) is =
            let (r, e') = subst (λ (o : Option ℕ). MatchOption o ((highest_of net levels q).level ≡ 0) (λ f. Reaches net levels f q × (level_of levels f ≡ Some (highest_of net levels q).level))) is
            (highest_is net levels wired q).met in
            (f, (combinational q c).1 ∙ is, feeds f q r (placed f (highest_of net levels q).level e') c, e' ∙ ap (λ (n : ℕ). Some n) up)

    from_first : (q : ℕ) → IsCombinational net q → level_of levels q ≡ Some 1 → get_or from q None ≡ None
    from_first q c e = go (highest_of net levels q).process refl
      where
        up : (highest_of net levels q).level ≡ 0
        up = let k = same q 1 (suc (highest_of net levels q).level) e (combinational q c).0 in omega (arith, k)

        go : (o : Option ℕ) → (highest_of net levels q).process ≡ o → get_or from q None ≡ None
        go None is = (combinational q c).1 ∙ is
        go (Some f) is =
            let (r, e') = subst (λ (o : Option ℕ). MatchOption o ((highest_of net levels q).level ≡ 0) (λ f. Reaches net levels f q × (level_of levels f ≡ Some (highest_of net levels q).level))) is
            (highest_is net levels wired q).met in
            let k = same f (highest_of net levels q).level (suc (highest_of net levels f).level) e' (combinational f (placed f (highest_of net levels q).level e')).0 in
            absurd (omega (arith, k, up))

    from_lowest : (q p below r : ℕ) → IsCombinational net q → level_of levels q ≡ Some (suc below) → get_or from q None ≡ Some p → r < p → level_of levels r ≡ Some below
        → Feeds net r q → ⊥
    from_lowest q p below r c e fq l er f =
        let k = same q (suc below) (suc (highest_of net levels q).level) e (combinational q c).0 in
        let up : below ≡ (highest_of net levels q).level = omega (arith, k) in
        let is : (highest_of net levels q).process ≡ Some p = sym (combinational q c).1 ∙ fq in
        let first : p ≤ r = subst (λ (o : Option ℕ). IfSome o (λ i. i ≤ r)) is (((highest_is net levels wired q).each r below (reaches r q f) er).1 up) in
        omega (arith, first, l)

    pub shows : ShowFroms net levels from
    shows = record {
      shown = record { each = λ p c. ((highest_of net levels p).level, (combinational p c).0); rises = rises; from_below = from_below };
      each_process = many;
      each_from = many_from;
      clocked = clocked;
      from_first = from_first;
      from_lowest = from_lowest;
    }

  -- ---- to it

  module _ (S : ShowFroms net levels from) where
    known : (p b : ℕ) → level_of levels p ≡ Some b → IsCombinational net p
    known p b e = has_level S.each_process (λ q clock edge k. (S.clocked q clock edge k).0) p b e

    not_zero : (f : ℕ) → level_of levels f ≡ Some 0 → ⊥
    not_zero f e = let (b, d) = S.shown.each f (known f 0 e) in let k = same f 0 (suc b) e d in omega (arith, k)

    module _ (q : ℕ) (c : IsCombinational net q) (below : ℕ) (e : level_of levels q ≡ Some (suc below)) where
      met_at : (o : Option ℕ) → (highest_of net levels q).process ≡ o
          → MatchOption o ((highest_of net levels q).level ≡ 0) (λ f. Reaches net levels f q × (level_of levels f ≡ Some (highest_of net levels q).level))
      met_at o is =
          subst (λ (o : Option ℕ). MatchOption o ((highest_of net levels q).level ≡ 0) (λ f. Reaches net levels f q × (level_of levels f ≡ Some (highest_of net levels q).level))) is
          (highest_is net levels wired q).met

      not_above : (highest_of net levels q).level ≤ below
      not_above = go (highest_of net levels q).process refl
        where
          go : (o : Option ℕ) → (highest_of net levels q).process ≡ o → (highest_of net levels q).level ≤ below
          go None is = let z : (highest_of net levels q).level ≡ 0 = met_at None is in omega (arith, z)
          go (Some f) is =
              let (r, d) = met_at (Some f) is in
              let l = S.shown.rises f q (highest_of net levels q).level (suc below) (feeds f q r (known f (highest_of net levels q).level d) c) d e in
              omega (arith, l)

    not_below : (q : ℕ) (c : IsCombinational net q) (below : ℕ) (e : level_of levels q ≡ Some (suc below)) → below ≤ (highest_of net levels q).level
    not_below q c zero e = omega arith
    not_below q c (suc b) e =
        let (p, at, f, d) = S.shown.from_below q b c e in
        ((highest_is net levels wired q).each p (suc b) (reaches p q f) d).0

    from_is : (q : ℕ) (c : IsCombinational net q) (below : ℕ) (e : level_of levels q ≡ Some (suc below)) → (highest_of net levels q).level ≡ below
        → (o : Option ℕ) → (highest_of net levels q).process ≡ o → get_or from q None ≡ o
    from_is q c zero e up None is = S.from_first q c e
    from_is q c zero e up (Some f) is = let (r, d) = met_at q c zero e (Some f) is in absurd (not_zero f (d ∙ ap (λ (n : ℕ). Some n) up))
    from_is q c (suc b) e up None is = let z : (highest_of net levels q).level ≡ 0 = met_at q c (suc b) e None is in absurd (omega (arith, z, up))
    from_is q c (suc b) e up (Some f) is =
        let (p, at, g, d) = S.shown.from_below q b c e in
        let (r, d') = met_at q c (suc b) e (Some f) is in
        let low : f ≤ p = subst (λ (o : Option ℕ). IfSome o (λ i. i ≤ p)) is (((highest_is net levels wired q).each p (suc b) (reaches p q g) d).1 (sym up)) in
        at ∙ ap (λ (n : ℕ). Some n) (go p at r d' low (cases_lt f p))
      where
        go : (p : ℕ) → get_or from q None ≡ Some p → Reaches net levels f q → level_of levels f ≡ Some (highest_of net levels q).level → f ≤ p → (f < p) ⊎ (p ≤ f) → p ≡ f
        go p at r d low (inl l) = absurd (S.from_lowest q p (suc b) f c e at l (d ∙ ap (λ (n : ℕ). Some n) up) (feeds f q r (known f (highest_of net levels q).level d) c))
        go p at r d low (inr l) = omega (arith, l, low)

    pub stand : (q : ℕ) → q < length net.processes → Stands net levels from q
    stand q l = go (kinds q l)
      where
        go : IsCombinational net q ⊎ ((clock : ℕ) × ((edge : Edge) × IsClockedBy net q clock edge)) → Stands net levels from q
        go (inr (clock, (edge, (reset, is)))) =
            subst (λ (k : m.ProcessKind). StandsAs (highest_of net levels q) k (level_of levels q) (get_or from q None)) (sym is) (S.clocked q clock edge (reset, is))
        go (inl c) =
            let (below, e) = S.shown.each q c in
            let a = not_above q c below e in
            let b = not_below q c below e in
            let up : (highest_of net levels q).level ≡ below = omega (arith, a, b) in
            subst (λ (k : m.ProcessKind). StandsAs (highest_of net levels q) k (level_of levels q) (get_or from q None)) (sym c.1)
            (e ∙ ap (λ (n : ℕ). Some (suc n)) (sym up), from_is q c below e up (highest_of net levels q).process refl)
