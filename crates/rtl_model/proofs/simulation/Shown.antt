-- One run of delta cycles shows what every order does.
use Rattle.std.proofs.Common.{◌≡◌, ℕ, suc, ◌<◌, Bool, true, false, List, [], ◌∷◌, ◌++◌, refl, sym, ap, ◌∙◌, subst, arith, length-append, ◌⊎◌, inl, inr}
use Rattle.std.proofs.lemmas.Bool.{cases_eq}
use Rattle.rtl_model.specs.simulation.Netlist.{Netlist}
use Rattle.rtl_model.specs.simulation.Cycle.{State, is_quiet}
use Rattle.rtl_model.specs.simulation.Moments.{Delta, Deltas, HasDeltas, HasNoneToRun, SettlesIn, IsUnsettled}
use Rattle.rtl_model.specs.simulation.Laws.{IsBusyBefore, EachRunShows, HasSettledWithin, SettlesOrNot}
use Rattle.rtl_model.proofs.simulation.Deltas.{after, HasDeltas-after, deltas_exist, settles_within}
use Rattle.rtl_model.proofs.basics.Search.{search_below}

last_delta : (net : Netlist) (orders : List (List ℕ)) (order : List ℕ) (s t u : State) → Deltas net orders s t → Delta net order t u → Deltas net (orders ++ (order ∷ [])) s u
last_delta net [] order s t u e d = (u, subst (λ (x : State). Delta net order x u) e d, refl)
last_delta net (first ∷ orders) order s t u (mid, one, more) d = (mid, one, last_delta net orders order mid t u more d)

module _ (net : Netlist) (s : State) where
  one_state : (k : ℕ) (t u : State) → HasDeltas net k s t → HasDeltas net k s u → t ≡ u
  one_state k t u h g = HasDeltas-after net k s t h ∙ sym (HasDeltas-after net k s u g)

  one_more : (k : ℕ) (order : List ℕ) (t u : State) → HasDeltas net k s t → Delta net order t u → HasDeltas net (suc k) s u
  one_more k order t u (orders, e, runs) d = (orders ++ (order ∷ []), omega (arith, length-append orders (order ∷ [])), last_delta net orders order s t u runs d)

  still_busy : (k : ℕ) (t : State) → IsBusyBefore net s k → HasDeltas net k s t → is_quiet t ≡ false → IsBusyBefore net s (suc k)
  still_busy k t busy h q j u l g = go (cases_eq j k)
    where
      go : (j ≡ k) ⊎ (j ≡ k → ⊥) → is_quiet u ≡ false
      go (inl e) = ap is_quiet (one_state k u t (subst (λ (i : ℕ). HasDeltas net i s u) e g) h) ∙ q
      go (inr n) = busy j u (omega arith) g

  settles_by : (k : ℕ) (t : State) → HasNoneToRun s → IsBusyBefore net s k → HasDeltas net k s t → is_quiet t ≡ true → SettlesIn net s k
  settles_by k t ready busy h q = record {
    ready = ready;
    goes_on = (t, h);
    settled = λ u g. ap is_quiet (one_state k u t g h) ∙ q;
    not_before = λ j u l g e. let f = busy j u l g in cc;
  }

  unsettled_by : (limit : ℕ) (t : State) → HasNoneToRun s → IsBusyBefore net s limit → HasDeltas net limit s t → is_quiet t ≡ false → IsUnsettled net s limit t
  unsettled_by limit t ready busy h q = record {
    ready = ready;
    never = λ k l settles.
        let (u, g) = settles.goes_on in
        let e = settles.settled u g in
        let f = still_busy limit t busy h q k u (omega arith) g in
        cc;
    leads = h;
  }

pub each_run_shows : EachRunShows
each_run_shows net s = record {
  one_state = one_state net s;
  none_yet = (([], refl, refl), λ j t l h. absurd (omega arith));
  one_more = one_more net s;
  still_busy = still_busy net s;
  settles_by = settles_by net s;
  unsettled_by = unsettled_by net s;
}

pub settles_or_not : SettlesOrNot
settles_or_not net s limit ready = (go (search_below (λ k. is_quiet (after net k s) ≡ true) (λ k. is_quiet_or_not (is_quiet (after net k s))) (suc limit)), λ (k, t, l, to) u unsettled. unsettled.never k l to.0)
  where
    is_quiet_or_not : (b : Bool) → (b ≡ true) ⊎ (b ≡ true → ⊥)
    is_quiet_or_not true = inl refl
    is_quiet_or_not false = inr (λ e. cc)

    go : ((k : ℕ) × (k < suc limit) × (is_quiet (after net k s) ≡ true)) ⊎ ((k : ℕ) → k < suc limit → is_quiet (after net k s) ≡ true → ⊥)
        → HasSettledWithin net s limit ⊎ ((t : State) × IsUnsettled net s limit t)
    go (inl (k, l, q)) =
        let (j, settles, m) = settles_within net s k ready q in
        inl (j, after net j s, omega arith, (settles, deltas_exist net j s ready))
    go (inr none) = inr (
      after net limit s,
      record {
        ready = ready;
        never = λ k l settles. none k (omega arith) (settles.settled (after net k s) (deltas_exist net k s ready));
        leads = deltas_exist net limit s ready;
      },
    )
