-- The greatest level of those that drive what a process is sensitive to, and the lowest that has it.
use Rattle.std.proofs.Common.{◌≡◌, ℕ, zero, suc, ◌<◌, ◌≤◌, ◌==◌, ◌&&◌, nat_lt, Bool, true, false, List, [], ◌∷◌, refl, sym, ap, subst, ◌∙◌, arith, ◌⊎◌, inl, inr, Option, Some, None, Contains}
use Rattle.std.specs.Prelude.{MatchOption, IfSome, if◌then◌else◌}
use Rattle.std.proofs.lemmas.Bool.{cases_Bool, cases_lt, or_cases, or_parts, and_parts, and_from, ltb-true, lt-ltb, eqb-true, eq-eqb}
use Rattle.rtl_model.specs.simulation.Netlist.{Netlist, Source, Driver, Idle, HasPlace, target, sources_of, process}
use Rattle.rtl_model.specs.simulation.Elaborated.{IsWired}
use Rattle.rtl_check.specs.declared.standing.Highest.{Highest}
use Rattle.rtl_check.specs.Standing.{level_of, no_highest, is_below, gives_way, with_process, with_sources, with_nets, highest_of, IsHighest}

below_is : (p : ℕ) (o : Option ℕ) → is_below p o ≡ true → (f : ℕ) × (o ≡ Some f) × (p < f)
below_is p None t = absurd cc
below_is p (Some f) t = (f, refl, ltb-true p f t)

not_below : (p : ℕ) (o : Option ℕ) → is_below p o ≡ false → IfSome o (λ f. f ≤ p)
not_below p None t = tt
not_below p (Some f) t = go (cases_lt p f)
  where
    go : (p < f) ⊎ (f ≤ p) → f ≤ p
    go (inl l) = let h : true ≡ false = sym (lt-ltb p f l) ∙ t in absurd cc
    go (inr l) = l

taken : (h : Highest) (p level : ℕ) → gives_way h p level ≡ true → (h.level < level) ⊎ ((level ≡ h.level) × ((f : ℕ) × (h.process ≡ Some f) × (p < f)))
taken h p level t = go (or_cases (nat_lt h.level level) ((level == h.level) && is_below p h.process) t)
  where
    go : (nat_lt h.level level ≡ true) ⊎ (((level == h.level) && is_below p h.process) ≡ true) → (h.level < level) ⊎ ((level ≡ h.level) × ((f : ℕ) × (h.process ≡ Some f) × (p < f)))
    go (inl l) = inl (ltb-true h.level level l)
    go (inr b) = let (e, u) = and_parts (level == h.level) (is_below p h.process) b in inr (eqb-true level h.level e, below_is p h.process u)

kept : (h : Highest) (p level : ℕ) → gives_way h p level ≡ false → (level ≤ h.level) × (level ≡ h.level → IfSome h.process (λ f. f ≤ p))
kept h p level t =
    let (a, b) = or_parts (nat_lt h.level level) ((level == h.level) && is_below p h.process) t in
    (least a (cases_lt h.level level), λ e. not_below p h.process (other b e (cases_Bool (is_below p h.process))))
  where
    least : nat_lt h.level level ≡ false → (h.level < level) ⊎ (level ≤ h.level) → level ≤ h.level
    least a (inl l) = let z : true ≡ false = sym (lt-ltb h.level level l) ∙ a in absurd cc
    least a (inr l) = l

    other : ((level == h.level) && is_below p h.process) ≡ false → level ≡ h.level → (is_below p h.process ≡ true) ⊎ (is_below p h.process ≡ false) → is_below p h.process ≡ false
    other b e (inl u) = let z : true ≡ false = sym (and_from (level == h.level) (is_below p h.process) (eq-eqb level h.level e) u) ∙ b in absurd cc
    other b e (inr u) = u

met_more : (P Q B : ℕ → Type 0) (A : Type 0) (o : Option ℕ) → ((p : ℕ) → P p → Q p) → MatchOption o A (λ f. P f × B f) → MatchOption o A (λ f. Q f × B f)
met_more P Q B A None to h = h
met_more P Q B A (Some f) to h = (to f h.0, h.1)

module _ (levels : List (Option ℕ)) where
  renamed : (P Q : ℕ → Type 0) (h : Highest) → ((p : ℕ) → P p → Q p) → ((p : ℕ) → Q p → P p) → IsHighest P levels h → IsHighest Q levels h
  renamed P Q h to from H = record {
    each = λ p b q e. H.each p b (from p q) e;
    met = met_more P Q (λ f. level_of levels f ≡ Some h.level) (h.level ≡ 0) h.process to H.met;
  }

  Or : (P : ℕ → Type 0) (q : ℕ) → ℕ → Type 0
  Or P q p = P p ⊎ (p ≡ q)

  same_level : (p q b v : ℕ) → p ≡ q → level_of levels p ≡ Some b → level_of levels q ≡ Some v → b ≡ v
  same_level p q b v e a d = let h : Some b ≡ Some v = sym a ∙ (ap (level_of levels) e ∙ d) in cc

  -- one process more
  one_more : (P : ℕ → Type 0) (h : Highest) (q : ℕ) → IsHighest P levels h → IsHighest (Or P q) levels (with_process h q (level_of levels q))
  unfolding Or
  one_more P h q H = go (level_of levels q) refl
    where
      took : (v : ℕ) → level_of levels q ≡ Some v → gives_way h q v ≡ true → IsHighest (Or P q) levels (record { level = v; process = Some q })
      took v is t = record { each = λ p b a e. each p b a e (taken h q v t); met = (inr refl, is) }
        where
          each : (p b : ℕ) → P p ⊎ (p ≡ q) → level_of levels p ≡ Some b → (h.level < v) ⊎ ((v ≡ h.level) × ((f : ℕ) × (h.process ≡ Some f) × (q < f))) → (b ≤ v) × (b ≡ v → q ≤ p)
          each p b (inr same) e way = let k = same_level p q b v same e is in (omega (arith, k), λ g. omega (arith, same))
          each p b (inl x) e (inl l) = let k = (H.each p b x e).0 in (omega (arith, k, l), λ g. omega (arith, k, l, g))
          each p b (inl x) e (inr (s, (f, at, l))) =
              let (k, low) = H.each p b x e in
              (omega (arith, k, s), λ g. let first : f ≤ p = subst (λ (o : Option ℕ). IfSome o (λ i. i ≤ p)) at (low (g ∙ s)) in omega (arith, first, l))

      left : (v : ℕ) → level_of levels q ≡ Some v → gives_way h q v ≡ false → IsHighest (Or P q) levels h
      left v is t = record { each = each; met = met_more P (λ p. P p ⊎ (p ≡ q)) (λ f. level_of levels f ≡ Some h.level) (h.level ≡ 0) h.process (λ p x. inl x) H.met }
        where
          each : (p b : ℕ) → P p ⊎ (p ≡ q) → level_of levels p ≡ Some b → (b ≤ h.level) × (b ≡ h.level → IfSome h.process (λ f. f ≤ p))
          each p b (inl x) e = H.each p b x e
          each p b (inr same) e =
              let k = same_level p q b v same e is in
              let (l, low) = kept h q v t in
              (omega (arith, k, l), λ g. subst (λ (i : ℕ). IfSome h.process (λ f. f ≤ i)) (sym same) (low (sym k ∙ g)))

      none : level_of levels q ≡ None → IsHighest (Or P q) levels h
      none is = record { each = each; met = met_more P (λ p. P p ⊎ (p ≡ q)) (λ f. level_of levels f ≡ Some h.level) (h.level ≡ 0) h.process (λ p x. inl x) H.met }
        where
          each : (p b : ℕ) → P p ⊎ (p ≡ q) → level_of levels p ≡ Some b → (b ≤ h.level) × (b ≡ h.level → IfSome h.process (λ f. f ≤ p))
          each p b (inl x) e = H.each p b x e
          each p b (inr same) e = let z : Some b ≡ None = sym e ∙ (ap (level_of levels) same ∙ is) in absurd cc

      chosen : (v : ℕ) → level_of levels q ≡ Some v → (b : Bool) → gives_way h q v ≡ b → IsHighest (Or P q) levels (if b then (record { level = v; process = Some q }) else h)
      chosen v is true t = took v is t
      chosen v is false t = left v is t

      go : (o : Option ℕ) → level_of levels q ≡ o → IsHighest (Or P q) levels (with_process h q o)
      go None is = none is
      go (Some v) is = chosen v is (gives_way h q v) refl

  -- the sources of one net
  sources_highest : (ss : List Source) (P : ℕ → Type 0) (h : Highest) → IsHighest P levels h
      → IsHighest (λ p. P p ⊎ ((place : ℕ) × Contains ss (Driver p place))) levels (with_sources levels h ss)
  unfolding Or
  sources_highest [] P h H = renamed P (λ p. P p ⊎ ((place : ℕ) × Contains [] (Driver p place))) h (λ p x. inl x) from H
    where
      from : (p : ℕ) → P p ⊎ ((place : ℕ) × Contains [] (Driver p place)) → P p
      from p (inl x) = x
      from p (inr (place, (k, l, e))) = absurd (omega arith)
  sources_highest (Idle v ∷ ss) P h H =
      renamed (λ p. P p ⊎ ((place : ℕ) × Contains ss (Driver p place))) (λ p. P p ⊎ ((place : ℕ) × Contains (Idle v ∷ ss) (Driver p place))) (with_sources levels h ss) to from
      (sources_highest ss P h H)
    where
      to : (p : ℕ) → P p ⊎ ((place : ℕ) × Contains ss (Driver p place)) → P p ⊎ ((place : ℕ) × Contains (Idle v ∷ ss) (Driver p place))
      to p (inl x) = inl x
      to p (inr (place, (k, l, e))) = inr (place, (suc k, omega (arith, l), e))

      from : (p : ℕ) → P p ⊎ ((place : ℕ) × Contains (Idle v ∷ ss) (Driver p place)) → P p ⊎ ((place : ℕ) × Contains ss (Driver p place))
      from p (inl x) = inl x
      from p (inr (place, (zero, l, e))) = absurd cc
      from p (inr (place, (suc k, l, e))) = inr (place, (k, omega (arith, l), e))
  sources_highest (Driver q first ∷ ss) P h H =
      renamed (λ p. Or P q p ⊎ ((place : ℕ) × Contains ss (Driver p place))) (λ p. P p ⊎ ((place : ℕ) × Contains (Driver q first ∷ ss) (Driver p place)))
      (with_sources levels (with_process h q (level_of levels q)) ss) to from
      (sources_highest ss (Or P q) (with_process h q (level_of levels q)) (one_more P h q H))
    where
      to : (p : ℕ) → (P p ⊎ (p ≡ q)) ⊎ ((place : ℕ) × Contains ss (Driver p place)) → P p ⊎ ((place : ℕ) × Contains (Driver q first ∷ ss) (Driver p place))
      to p (inl (inl x)) = inl x
      to p (inl (inr e)) = inr (first, (0, omega arith, ap (λ (i : ℕ). Driver i first) (sym e)))
      to p (inr (place, (k, l, e))) = inr (place, (suc k, omega (arith, l), e))

      from : (p : ℕ) → P p ⊎ ((place : ℕ) × Contains (Driver q first ∷ ss) (Driver p place)) → (P p ⊎ (p ≡ q)) ⊎ ((place : ℕ) × Contains ss (Driver p place))
      from p (inl x) = inl (inl x)
      from p (inr (place, (zero, l, e))) = let g : Driver q first ≡ Driver p place = e in let s : q ≡ p = cc in inl (inr (sym s))
      from p (inr (place, (suc k, l, e))) = inr (place, (k, omega (arith, l), e))

module _ (net : Netlist) (levels : List (Option ℕ)) where
  nets_highest : (ns : List ℕ) (P : ℕ → Type 0) (h : Highest) → IsHighest P levels h
      → IsHighest (λ p. P p ⊎ ((n : ℕ) × Contains ns n × ((place : ℕ) × Contains (sources_of net n) (Driver p place)))) levels (with_nets net levels h ns)
  nets_highest [] P h H = renamed levels P (λ p. P p ⊎ ((n : ℕ) × Contains [] n × ((place : ℕ) × Contains (sources_of net n) (Driver p place)))) h (λ p x. inl x) from H
    where
      from : (p : ℕ) → P p ⊎ ((n : ℕ) × Contains [] n × ((place : ℕ) × Contains (sources_of net n) (Driver p place))) → P p
      from p (inl x) = x
      from p (inr (n, (k, l, e), rest)) = absurd (omega arith)
  nets_highest (o ∷ ns) P h H =
      renamed levels (λ p. (P p ⊎ ((place : ℕ) × Contains (sources_of net o) (Driver p place))) ⊎ ((n : ℕ) × Contains ns n × ((place : ℕ) × Contains (sources_of net n) (Driver p place))))
      (λ p. P p ⊎ ((n : ℕ) × Contains (o ∷ ns) n × ((place : ℕ) × Contains (sources_of net n) (Driver p place))))
      (with_nets net levels (with_sources levels h (sources_of net o)) ns) to from
      (nets_highest ns (λ p. P p ⊎ ((place : ℕ) × Contains (sources_of net o) (Driver p place))) (with_sources levels h (sources_of net o)) (sources_highest levels (sources_of net o) P h H))
    where
      to : (p : ℕ) → (P p ⊎ ((place : ℕ) × Contains (sources_of net o) (Driver p place))) ⊎ ((n : ℕ) × Contains ns n × ((place : ℕ) × Contains (sources_of net n) (Driver p place)))
          → P p ⊎ ((n : ℕ) × Contains (o ∷ ns) n × ((place : ℕ) × Contains (sources_of net n) (Driver p place)))
      to p (inl (inl x)) = inl x
      to p (inl (inr d)) = inr (o, (0, omega arith, refl), d)
      to p (inr (n, (k, l, e), d)) = inr (n, (suc k, omega (arith, l), e), d)

      from : (p : ℕ) → P p ⊎ ((n : ℕ) × Contains (o ∷ ns) n × ((place : ℕ) × Contains (sources_of net n) (Driver p place)))
          → (P p ⊎ ((place : ℕ) × Contains (sources_of net o) (Driver p place))) ⊎ ((n : ℕ) × Contains ns n × ((place : ℕ) × Contains (sources_of net n) (Driver p place)))
      from p (inl x) = inl (inl x)
      from p (inr (n, (zero, l, e), (place, d))) = inl (inr (place, subst (λ (i : ℕ). Contains (sources_of net i) (Driver p place)) (sym e) d))
      from p (inr (n, (suc k, l, e), d)) = inr (n, (k, omega (arith, l), e), d)

  -- p drives something that q is sensitive to
  abbrev pub Reaches : (p q : ℕ) → Type 0
  Reaches p q = (place : ℕ) × HasPlace net p place × Contains (process net q).wakes (target net p place)

  pub highest_is : IsWired net → (q : ℕ) → IsHighest (λ p. Reaches p q) levels (highest_of net levels q)
  highest_is wired q =
      renamed levels (λ p. ⊥ ⊎ ((n : ℕ) × Contains (process net q).wakes n × ((place : ℕ) × Contains (sources_of net n) (Driver p place)))) (λ p. Reaches p q) (highest_of net levels q)
      to (λ p (place, has, wakes). inr (target net p place, wakes, (place, wired.drivers_are_sources p place has)))
      (nets_highest (process net q).wakes (λ p. ⊥) no_highest (record { each = λ p b x e. absurd x; met = refl }))
    where
      to : (p : ℕ) → ⊥ ⊎ ((n : ℕ) × Contains (process net q).wakes n × ((place : ℕ) × Contains (sources_of net n) (Driver p place))) → Reaches p q
      to p (inl x) = absurd x
      to p (inr (n, w, (place, d))) = let (has, at) = wired.sources_are_drivers n p place d in (place, has, subst (Contains (process net q).wakes) (sym at) w)
