-- A run settles what looks at nothing that it changes, and unsettles no such thing.
use Rattle.std.proofs.Common.{◌≡◌, ℕ, Bool, true, false, List, get_or, Option, None, refl, sym, ap, ◌∙◌, ◌⊎◌, inl, inr, subst, IsSome, Contains}
use Rattle.std.proofs.lemmas.Bool.{cases_eq}
use Rattle.rtl_model.proofs.basics.Lists.{Contains-one}
use Rattle.rtl_model.specs.basics.Valuations.{entry_where}
use Rattle.rtl_model.specs.simulation.Elaborated.{IsElaborated}
use Rattle.rtl_model.specs.simulation.Netlist.{Driver, HasPlace, Netlist, process, reset_entry, reset_of, Source, sources_of, target}
use Rattle.rtl_model.specs.simulation.Machine.{entry_or}
use Rattle.rtl_model.proofs.simulation.Held.{entry_twice, none_or_some}
use Rattle.rtl_model.proofs.simulation.Levels.{numbered}
use Rattle.rtl_model.proofs.simulation.Numbered.{Numbered, sole}
use Rattle.rtl_levels.specs.Running.{AgreeOnLooks, IsDerivedAt, IsSettledAt, IsWritten}
use Rattle.rtl_levels.specs.Laws.{EachRunSettles, EachStaysSettled}
use Rattle.rtl_levels.proofs.Resets.{one_reset, reset_clocks, resets_alike, still_entry}

module _ (net : Netlist) (E : IsElaborated net) where
  -- where what a driver looks at is the same, so is its entry
  same_entry : (p place : ℕ) (v w : List ℕ) → IsDerivedAt net p place → HasPlace net p place → AgreeOnLooks net p place v w
      → get_or ((process net p).effect w w) place None ≡ get_or ((process net p).effect v v) place None
  same_entry p place v w (inl c) h agree = E.bodies.entry_looks p place w w v v c h (λ n looks. sym (agree n (inl (c, looks))))
  same_entry p place v w (inr (m, R)) h agree =
      let (clock, edge, is) = reset_clocks net p R.0.0.0 R.0.0.1 in
      still_entry net p E clock edge is w place
      ∙ ap (λ b. entry_where b (reset_entry (reset_of net p) place))
      (resets_alike net p (λ n. get_or w n 0) (λ n. get_or v n 0)
      (λ reset has. subst (λ (n : ℕ). get_or w n 0 ≡ get_or v n 0) (one_reset net p m reset.net R.0.0 (reset, has, refl)) (sym (agree m (inr R)))))
      ∙ sym (still_entry net p E clock edge is v place)

  -- of a process that is visited at one driver, each is visited, or has no entry without an event
  pub derived_or_still : (p at place : ℕ) → IsDerivedAt net p at → IsDerivedAt net p place ⊎ ((v : List ℕ) → get_or ((process net p).effect v v) place None ≡ None)
  derived_or_still p at place (inl c) = inl (inl c)
  derived_or_still p at place (inr (m, R)) = by (none_or_some (reset_entry (reset_of net p) place))
    where
      by : (reset_entry (reset_of net p) place ≡ None) ⊎ IsSome (reset_entry (reset_of net p) place) → IsDerivedAt net p place ⊎ ((v : List ℕ) → get_or ((process net p).effect v v) place None ≡ None)
      by (inr some) = inl (inr (m, (R.0, some)))
      by (inl none) = inr (λ v.
          let (clock, edge, is) = reset_clocks net p R.0.0.0 R.0.0.1 in
          still_entry net p E clock edge is v place ∙ ap (entry_where _) none ∙ nothing _)
        where
          nothing : (holds : Bool) → ◌≡◌ {A = Option ℕ} (entry_where holds None) None
          nothing true = refl
          nothing false = refl

pub each_stays_settled : EachStaysSettled
each_stays_settled net E p place v w d h settled agree same =
    (λ i. entry_or (same_entry net E p place v w d h agree i) (same i)) ∙ settled ∙ sym same

module _ (net : Netlist) (L : Numbered net) where
  -- a net has one driver's process
  pub one_process : (p q at place : ℕ) → HasPlace net p at → HasPlace net q place → target net p at ≡ target net q place → q ≡ p
  one_process p q at place has h t =
      let c = subst (λ (n : ℕ). Contains (sources_of net n) (Driver p at)) t (L.elaborated.wiring.drivers_are_sources p at has) in
      let e = Contains-one (Driver q place) (Driver p at) (subst (λ (xs : List Source). Contains xs (Driver p at)) (sole net L q place h) c) in
      cc

  -- and one place of it
  pub one_place : (p at place : ℕ) → HasPlace net p at → HasPlace net p place → target net p at ≡ target net p place → at ≡ place
  one_place p at place has h t =
      let c = subst (λ (n : ℕ). Contains (sources_of net n) (Driver p at)) t (L.elaborated.wiring.drivers_are_sources p at has) in
      let e = Contains-one (Driver p place) (Driver p at) (subst (λ (xs : List Source). Contains xs (Driver p at)) (sole net L p place h) c) in
      cc

  module _ (p : ℕ) (v w : List ℕ) (W : IsWritten net p v w) where
    pub settles_itself : (place : ℕ) → IsDerivedAt net p place → HasPlace net p place → AgreeOnLooks net p place v w → IsSettledAt net w p place
    settles_itself place d h agree =
        (λ i. entry_or (same_entry net L.elaborated p place v w d h agree i) (W.on_targets place h i))
        ∙ entry_twice (get_or ((process net p).effect v v) place None) (get_or v (target net p place) 0)
        ∙ sym (W.on_targets place h)

    pub stays_settled : (q place : ℕ) → IsDerivedAt net q place → HasPlace net q place → IsSettledAt net v q place → AgreeOnLooks net q place v w → IsSettledAt net w q place
    stays_settled q place d h settled agree = go (cases_eq q p)
      where
        go : (q ≡ p) ⊎ (q ≡ p → ⊥) → IsSettledAt net w q place
        go (inl e) =
            subst (λ (x : ℕ). IsSettledAt net w x place) (sym e)
            (settles_itself place (subst (λ (x : ℕ). IsDerivedAt net x place) e d) (subst (λ (x : ℕ). HasPlace net x place) e h) (subst (λ (x : ℕ). AgreeOnLooks net x place v w) e agree))
        go (inr other) = each_stays_settled net L.elaborated q place v w d h settled agree (W.on_others (target net q place) (λ at has t. other (one_process p q at place has h t)))

pub each_run_settles : EachRunSettles
each_run_settles net E A p v w W =
    let L = numbered net E A in
    record { itself = settles_itself net L p v w W; others = stays_settled net L p v w W }
