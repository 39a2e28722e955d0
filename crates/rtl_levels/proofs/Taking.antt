-- Entries that are taken over, run by run.
use Rattle.std.proofs.Common.{◌≡◌, ℕ, ◌+◌, ◌-◌, ◌<◌, ◌≤◌, List, length, get_or, Option, Some, None, refl, sym, ap, ◌∙◌, arith, ◌⊎◌, inl, inr}
use Rattle.std.proofs.lemmas.Bool.{cases_lt}
use Rattle.std.proofs.lemmas.List.{get_or_past, length-map}
use Rattle.rtl_model.specs.simulation.Machine.{entry_or}
use Rattle.rtl_model.proofs.basics.Lists.{get_or-map_within}
use Rattle.rtl_kernel.specs.drivers.Updates.{IsTaken}
use Rattle.rtl_net_groups.specs.Written.{IsWritten}
use Rattle.rtl_kernel.specs.wakes.Woken.{AreDifferent}
use Rattle.rtl_levels.specs.Running.{IsNew, TakesOver, TakesPart, at_targets}

module _ (targets : List ℕ) (entries : List (Option ℕ)) where
  pub at_target : (v : List ℕ) (place : ℕ) → place < length targets → get_or (at_targets targets v) place 0 ≡ get_or v (get_or targets place 0) 0
  at_target v place there = get_or-map_within (λ (n : ℕ). get_or v n 0) targets place 0 0 there

  past_targets : (v : List ℕ) (place : ℕ) → length targets ≤ place → get_or (at_targets targets v) place 0 ≡ 0
  past_targets v place past = get_or_past (at_targets targets v) place 0 (rw length-map past)

  pub part_none : (v : List ℕ) → TakesPart targets entries v v
  part_none v = record { each_net = refl; unassigned = λ place none. refl; stay = λ place taken. taken; on_others = λ n other. refl }

  pub part_then : (u v w : List ℕ) → TakesPart targets entries u v → TakesPart targets entries v w → TakesPart targets entries u w
  part_then u v w A B = record {
    each_net = B.each_net ∙ A.each_net;
    unassigned = λ place none. B.unassigned place none ∙ A.unassigned place none;
    stay = λ place taken. B.stay place (A.stay place taken);
    on_others = λ n other. B.on_others n other ∙ A.on_others n other;
  }

  -- what is new behind a part was before it
  pub new_before : (u v : List ℕ) → TakesPart targets entries u v → (n : ℕ) → IsNew targets entries v n → IsNew targets entries u n
  new_before u v P n N = record { place = N.place; there = N.there; is = N.is; new = λ taken. N.new (P.stay N.place taken) }

  -- ---- the places from one on, whose nets stand one behind the other

  module _ (differ : AreDifferent targets) (v w : List ℕ) (first net : ℕ) (given : List ℕ) (within : first + length given ≤ length targets)
      (is : (k : ℕ) → k < length given → get_or targets (first + k) 0 ≡ net + k) (are : (k : ℕ) → k < length given → get_or entries (first + k) None ≡ Some (get_or given k 0))
      (W : IsWritten net given v w) where
    -- a place among them
    record IsHere (place : ℕ) : Type 0 where
      k : ℕ
      in_run : k < length given
      at : first + k ≡ place

    outside : (n : ℕ) → ((k : ℕ) → k < length given → net + k ≡ n → ⊥) → get_or w n 0 ≡ get_or v n 0
    outside n other = by (cases_lt n net)
      where
        behind : (n < net + length given) ⊎ (net + length given ≤ n) → net ≤ n → get_or w n 0 ≡ get_or v n 0
        behind (inl less) low = absurd (other (n - net) (omega (arith, less, low)) (omega (arith, low)))
        behind (inr past) low = W.behind n past

        by : (n < net) ⊎ (net ≤ n) → get_or w n 0 ≡ get_or v n 0
        by (inl less) = W.below n less
        by (inr low) = behind (cases_lt n (net + length given)) low

    elsewhere : (place : ℕ) → ((k : ℕ) → k < length given → first + k ≡ place → ⊥) → get_or (at_targets targets w) place 0 ≡ get_or (at_targets targets v) place 0
    elsewhere place other = by (cases_lt place (length targets))
      where
        by : (place < length targets) ⊎ (length targets ≤ place) → get_or (at_targets targets w) place 0 ≡ get_or (at_targets targets v) place 0
        by (inl there) =
            at_target w place there
            ∙ outside (get_or targets place 0) (λ k l e. other k l (differ (first + k) place (omega (arith, l, within)) there (is k l ∙ e)))
            ∙ sym (at_target v place there)
        by (inr past) = past_targets w place past ∙ sym (past_targets v place past)

    here_or_not : (place : ℕ) → IsHere place ⊎ ((k : ℕ) → k < length given → first + k ≡ place → ⊥)
    here_or_not place = by (cases_lt place first)
      where
        behind : (place < first + length given) ⊎ (first + length given ≤ place) → first ≤ place → IsHere place ⊎ ((k : ℕ) → k < length given → first + k ≡ place → ⊥)
        behind (inl less) low = inl (record { k = place - first; in_run = omega (arith, less, low); at = omega (arith, low) })
        behind (inr past) low = inr (λ k l e. absurd (omega (arith, l, e, past)))

        by : (place < first) ⊎ (first ≤ place) → IsHere place ⊎ ((k : ℕ) → k < length given → first + k ≡ place → ⊥)
        by (inl less) = inr (λ k l e. absurd (omega (arith, e, less)))
        by (inr low) = behind (cases_lt place (first + length given)) low

    pub taken_here : (k : ℕ) → k < length given → get_or (at_targets targets w) (first + k) 0 ≡ get_or given k 0
    taken_here k l = at_target w (first + k) (omega (arith, l, within)) ∙ ap (λ (n : ℕ). get_or w n 0) (is k l) ∙ W.written k l

    pub part_run : TakesPart targets entries v w
    part_run = record {
      each_net = W.as_many;
      unassigned = λ place none. unassigned place none (here_or_not place);
      stay = λ place taken. stay place taken (here_or_not place);
      on_others = λ n other. outside n (λ k l e. other (first + k) (omega (arith, l, within)) (is k l ∙ e));
    }
      where
        unassigned : (place : ℕ) → get_or entries place None ≡ None → IsHere place ⊎ ((k : ℕ) → k < length given → first + k ≡ place → ⊥)
            → get_or (at_targets targets w) place 0 ≡ get_or (at_targets targets v) place 0
        unassigned place none (inl h) = let some = ap (λ (p : ℕ). get_or entries p None) (sym h.at) ∙ are h.k h.in_run in absurd cc
        unassigned place none (inr other) = elsewhere place other

        stay : (place : ℕ) → IsTaken entries (at_targets targets v) place → IsHere place ⊎ ((k : ℕ) → k < length given → first + k ≡ place → ⊥)
            → IsTaken entries (at_targets targets w) place
        stay place taken (inl h) x e =
            let some = ap (λ (p : ℕ). get_or entries p None) (sym h.at) ∙ are h.k h.in_run in
            let same : get_or given h.k 0 ≡ x = cc in
            ap (λ (p : ℕ). get_or (at_targets targets w) p 0) (sym h.at) ∙ taken_here h.k h.in_run ∙ same
        stay place taken (inr other) x e = elsewhere place other ∙ taken x e

  -- ---- all of them

  pub part_all : (v w : List ℕ) → TakesPart targets entries v w → ((place : ℕ) → IsTaken entries (at_targets targets w) place) → TakesOver targets entries v w
  part_all v w P all = record { each_net = P.each_net; on_targets = λ place there. on_target place there (get_or entries place None) refl; on_others = P.on_others }
    where
      on_target : (place : ℕ) → place < length targets → (o : Option ℕ) → get_or entries place None ≡ o
          → get_or w (get_or targets place 0) 0 ≡ entry_or (get_or entries place None) (get_or v (get_or targets place 0) 0)
      on_target place there None e =
          sym (at_target w place there) ∙ P.unassigned place e ∙ at_target v place there ∙ sym (ap (λ (o : Option ℕ). entry_or o (get_or v (get_or targets place 0) 0)) e)
      on_target place there (Some x) e =
          sym (at_target w place there) ∙ all place x e ∙ sym (ap (λ (o : Option ℕ). entry_or o (get_or v (get_or targets place 0) 0)) e)
