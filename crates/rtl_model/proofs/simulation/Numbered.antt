-- What most proofs about an accepted netlist start from: it was elaborated, has none of the faults but loops, and its
-- nets and processes are numbered along what they look at.
use Rattle.std.proofs.Common.{◌≡◌, ℕ, ◌<◌, ◌≤◌, List, [], ◌∷◌, get_or, Some, None, refl, IsSome, ◌⊎◌, inl, inr, subst, sym, Contains, set, replicate, suc, ap, ◌∙◌, arith}
use Rattle.std.proofs.lemmas.List.{get_or-set_other, get_or-set_same, length-replicate}
use Rattle.rtl_model.proofs.basics.Search.{is_contained}
use Rattle.rtl_model.specs.basics.Valuations.{AgreeOn}
use Rattle.rtl_model.proofs.basics.Lists.{Contains-none, Contains-one, Contains-first, only_source}
use Rattle.rtl_model.specs.simulation.Netlist.{Copy, Driver, HasPlace, HasReset, Idle, IsCombinational, Netlist, process, Reset, Source, sources_of, target, IsDriven}
use Rattle.rtl_model.specs.simulation.Elaborated.{IsElaborated, IsOnlyPlace}
use Rattle.rtl_model.specs.simulation.Accepted.{IsResetBy, LooksAt}
use Rattle.rtl_model.proofs.simulation.Faultless.{Faultless}

-- a process that can assign in a delta cycle
abbrev pub CanAssign : Netlist → ℕ → Type 0
CanAssign net p = IsCombinational net p ⊎ ((reset : Reset) × HasReset net p reset)

-- What a combinational process drives has a number above those of what the driver looks at, a register one above that of
-- its reset if that is made inside, and what can assign in a delta cycle one above those of the driven nets that it is
-- sensitive to.
pub record Numbered (net : Netlist) : Type 0 where
  pub elaborated : IsElaborated net
  pub faultless : Faultless net
  pub of_net : ℕ → ℕ
  pub from_one : (p place : ℕ) → IsCombinational net p → HasPlace net p place → 1 ≤ of_net (target net p place)
  pub rises : (p place n : ℕ) → IsCombinational net p → HasPlace net p place → Contains ((process net p).looks place) n → of_net n < of_net (target net p place)
  pub resets_rise : (p place n : ℕ) → IsResetBy net p place n → HasPlace net p place → of_net n < of_net (target net p place)
  pub of_process : ℕ → ℕ
  pub process_from_one : (p : ℕ) → IsCombinational net p → 1 ≤ of_process p
  pub above : (p n : ℕ) → CanAssign net p → IsDriven net n → Contains (process net p).wakes n → of_net n < of_process p
  pub greatest : ℕ
  pub net_within : (n : ℕ) → of_net n ≤ greatest
  pub process_within : (p : ℕ) → of_process p ≤ greatest

pub some_same : (a b : ℕ) → Some a ≡ Some b → a ≡ b
some_same a b e = cc

module _ (net : Netlist) (L : Numbered net) where
  pub sole : (p place : ℕ) → HasPlace net p place → sources_of net (target net p place) ≡ Driver p place ∷ []
  sole p place h = only_source _ _ (L.faultless.one_source (target net p place)) (L.elaborated.wiring.drivers_are_sources p place h)

  pub rises_along : (m n : ℕ) → LooksAt net n m → L.of_net m < L.of_net n
  rises_along m n l = subst (λ (k : ℕ). L.of_net m < L.of_net k) l.net_is (go l.looks)
    where
      go : (IsCombinational net l.driver × Contains ((process net l.driver).looks l.place) m) ⊎ IsResetBy net l.driver l.place m → L.of_net m < L.of_net (target net l.driver l.place)
      go (inl (c, looks)) = L.rises l.driver l.place m c l.drives looks
      go (inr reset) = L.resets_rise l.driver l.place m reset l.drives

  -- no other place of the process has the net
  only_place : (p place : ℕ) → HasPlace net p place → IsOnlyPlace net p place
  only_place p place h other has t =
      let c = subst (λ (xs : List Source). Contains xs (Driver p other)) (sole p place h) (subst (λ (n : ℕ). Contains (sources_of net n) (Driver p other)) t (L.elaborated.wiring.drivers_are_sources p other has)) in
      let e = Contains-one (Driver p place) (Driver p other) c in
      cc

  -- a combinational process assigns each of its drivers in every run
  pub assigned : (p place : ℕ) (before now : List ℕ) → IsCombinational net p → HasPlace net p place → IsSome (get_or ((process net p).effect before now) place None)
  assigned p place before now c h = L.elaborated.bodies.assigned p place before now c h (only_place p place h) (L.faultless.no_latch p place c h)

  pub driven_or_not : (n : ℕ) → IsDriven net n ⊎ (IsDriven net n → ⊥)
  driven_or_not n = go (sources_of net n) refl
    where
      not : (source : Source) → sources_of net n ≡ source ∷ [] → ((p place : ℕ) → source ≡ Driver p place → ⊥) → IsDriven net n → ⊥
      not source e h (p, place, has, t) = h p place (Contains-one source (Driver p place) (subst (λ (xs : List Source). Contains xs (Driver p place)) e (subst (λ (m : ℕ). Contains (sources_of net m) (Driver p place)) t (L.elaborated.wiring.drivers_are_sources p place has))))

      go : (xs : List Source) → sources_of net n ≡ xs → IsDriven net n ⊎ (IsDriven net n → ⊥)
      go [] e = inr (λ (p, place, has, t). Contains-none (Driver p place) (subst (λ (xs : List Source). Contains xs (Driver p place)) e (subst (λ (m : ℕ). Contains (sources_of net m) (Driver p place)) t (L.elaborated.wiring.drivers_are_sources p place has))))
      go (Driver p place ∷ more) e =
          let f = L.elaborated.wiring.sources_are_drivers n p place (subst (λ (xs : List Source). Contains xs (Driver p place)) (sym e) (Contains-first (Driver p place) more)) in
          inl (p, place, f.0, f.1)
      go (Idle v ∷ more) e = inr (not (Idle v) (only_source (sources_of net n) (Idle v) (L.faultless.one_source n) (rw e (Contains-first (Idle v) more))) (λ p place q. cc))

  -- what is copied has a lower number than the copy, unless that passes on one value
  pub copy_rises : (p place : ℕ) (copy : Copy) → IsCombinational net p → HasPlace net p place → (process net p).copies place ≡ Some copy
      → (L.of_net copy.net < L.of_net (target net p place)) ⊎ ((a b : ℕ) → copy.passed a ≡ copy.passed b)
  copy_rises p place copy c h copies = go (is_contained ((process net p).looks place) copy.net)
    where
      zeros : List ℕ
      zeros = replicate (suc copy.net) 0

      with_value : ℕ → List ℕ
      with_value x = set zeros copy.net x

      passes : (x : ℕ) → get_or ((process net p).effect (with_value x) (with_value x)) place None ≡ Some (copy.passed x)
      passes x = L.elaborated.bodies.copies_pass p place copy (with_value x) (with_value x) h copies
          ∙ ap (λ (v : ℕ). Some (copy.passed v)) (get_or-set_same zeros copy.net x 0 (subst (λ (k : ℕ). copy.net < k) (sym (length-replicate {A = ℕ} (suc copy.net) 0)) (omega arith)))

      agree : (Contains ((process net p).looks place) copy.net → ⊥) → (a b : ℕ) → AgreeOn ((process net p).looks place) (with_value a) (with_value b)
      agree not a b n looks =
          let other : n ≡ copy.net → ⊥ = λ e. not (subst (λ (m : ℕ). Contains ((process net p).looks place) m) e looks) in
          get_or-set_other zeros copy.net n a 0 other ∙ sym (get_or-set_other zeros copy.net n b 0 other)

      go : Contains ((process net p).looks place) copy.net ⊎ (Contains ((process net p).looks place) copy.net → ⊥) → (L.of_net copy.net < L.of_net (target net p place)) ⊎ ((a b : ℕ) → copy.passed a ≡ copy.passed b)
      go (inl looks) = inl (L.rises p place copy.net c h looks)
      go (inr not) = inr (λ a b. some_same _ _ (sym (passes a) ∙ (L.elaborated.bodies.entry_looks p place (with_value a) (with_value a) (with_value b) (with_value b) c h (agree not a b) ∙ passes b)))
