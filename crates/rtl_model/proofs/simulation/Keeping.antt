-- A calm net that has one of its values in a moment has one of them at the moment's beginning or at its end.
use Rattle.std.proofs.Common.{◌≡◌, ℕ, zero, suc, ◌<◌, ◌≤◌, Bool, true, false, not, ◌&&◌, ◌||◌, ◌==◌, List, [], ◌∷◌, length, get_or, Option, Some, None, refl, sym, ap, ◌∙◌, subst, arith, ◌⊎◌, inl, inr, Contains, IsSome}
use Rattle.std.specs.List.{list_any}
use Rattle.std.proofs.lemmas.List.{get_or_past}
use Rattle.std.proofs.lemmas.Bool.{cases_Bool, cases_lt}
use Rattle.rtl_model.specs.basics.Valuations.{clocked_entry, entry_where}
use Rattle.rtl_model.specs.simulation.Netlist.{Copy, Driver, Edge, holds_back, HasPlace, HasReset, IsClock, IsClockedBy, IsCombinational, IsDriven, IsInput, Netlist, process, Reset, reset_entry, reset_of, resets, Source, sources_of, target}
use Rattle.rtl_model.specs.simulation.Cycle.{is_quiet, State}
use Rattle.rtl_model.specs.simulation.Calm.{IsFromOutside, IsCombinationalNet, FollowsInputs, Copies, IsMadeOfInputs, follows, copies_made, StartsQuietly, starts_without, resets_to_these}
use Rattle.rtl_model.specs.simulation.Calm.{IsCalm, follows_inputs, ends_reset, reset_by_inputs, copies_calm}
use Rattle.rtl_model.specs.simulation.Accepted.{ClockAsData, IsAccepted, MixedProcess}
use Rattle.rtl_model.specs.simulation.Machine.{entry_or}
use Rattle.rtl_model.proofs.basics.Lists.{Contains-first}
use Rattle.rtl_model.proofs.simulation.Numbered.{Numbered, copy_rises, driven_or_not, some_same}
use Rattle.rtl_model.proofs.simulation.Rows.{out, value, quiet_at}
use Rattle.rtl_model.proofs.simulation.Deltas.{after, after_delta}
use Rattle.rtl_model.proofs.simulation.Beginning.{Begins, IsSettled, laid_out}
use Rattle.rtl_model.proofs.simulation.Held.{after_holds, entry_twice, input_not_driven, Holds, IsLaidOver, IsSeen, no_edge_entry, none_or_some, updated_driven, updated_value}

pub after_more : (net : Netlist) (k : ℕ) (s : State) → after net (suc k) s ≡ after_delta net (after net k s)
after_more net zero s = refl
after_more net (suc k) s = after_more net k (after_delta net s)

module _ (net : Netlist) (L : Numbered net) (A : IsAccepted net) (inputs : ℕ → ℕ) (edge_comes : ℕ → Edge → Bool) (r : ℕ → ℕ → ℕ) (old : List ℕ) (s : State) (B : Begins net edge_comes r old s) (H : Holds net inputs r (IsSeen net s) s) (last : ℕ) (Q : is_quiet (after net last s) ≡ true) where
  abbrev now : ℕ → List ℕ
  now k = (after net k s).now

  abbrev at : ℕ → ℕ → ℕ
  at k n = get_or (now k) n 0

  abbrev resets_at : ℕ → ℕ → Bool
  resets_at k p = resets (reset_of net p) (at k)

  abbrev ResetKeeps : ℕ → Type 0
  ResetKeeps p = (k : ℕ) → resets_at k p ≡ true → (resets_at 0 p ≡ true) ⊎ (resets_at last p ≡ true)

  hold : (k : ℕ) → Holds net inputs r (IsSeen net s) (after net k s)
  hold k = after_holds net L inputs r (IsSeen net s) k s (λ j. (j, refl)) H

  -- ---- what nets have

  next_value : (k p place : ℕ) → HasPlace net p place → at (suc k) (target net p place) ≡ out (after net k s) p place
  next_value k p place h =
      ap (λ (u : State). get_or u.now (target net p place) 0) (after_more net k s)
      ∙ updated_driven net L inputs r (IsSeen net s) (after net k s) (hold k) p place h
      ∙ updated_value net L inputs r (IsSeen net s) (after net k s) (hold k) p place h

  last_value : (p place : ℕ) → HasPlace net p place → at last (target net p place) ≡ out (after net last s) p place
  last_value p place h = (hold last).on_driven p place h ∙ ap (λ (o : Option ℕ). entry_or o (value (after net last s) p place)) (sym (quiet_at (after net last s) Q p place))

  undriven_same : (j k n : ℕ) → (IsDriven net n → ⊥) → at j n ≡ at k n
  undriven_same j k n free = go (cases_Bool (list_any (λ m. m == n) net.inputs)) (cases_lt n (length net.start))
    where
      go : (list_any (λ m. m == n) net.inputs ≡ true) ⊎ (list_any (λ m. m == n) net.inputs ≡ false) → (n < length net.start) ⊎ (length net.start ≤ n) → at j n ≡ at k n
      go (inl is) l = (hold j).on_inputs n is ∙ sym ((hold k).on_inputs n is)
      go (inr is) (inl l) = (hold j).on_others n l (λ (i : IsInput net n). cc) free ∙ sym ((hold k).on_others n l (λ (i : IsInput net n). cc) free)
      go (inr is) (inr l) =
          let a = (hold j).now_length in
          let b = (hold k).now_length in
          get_or_past (now j) n 0 (omega arith) ∙ sym (get_or_past (now k) n 0 (omega arith))

  made_next : (k p place : ℕ) → IsCombinational net p → HasPlace net p place → Some (at (suc k) (target net p place)) ≡ get_or ((process net p).effect (now k) (now k)) place None
  made_next k p place c h = ap (λ (x : ℕ). Some x) (next_value k p place h) ∙ sym ((hold k).on_combinational p place c h)

  made_last : (p place : ℕ) → IsCombinational net p → HasPlace net p place → Some (at last (target net p place)) ≡ get_or ((process net p).effect (now last) (now last)) place None
  made_last p place c h = ap (λ (x : ℕ). Some x) (last_value p place h) ∙ sym ((hold last).on_combinational p place c h)

  copied : (p place : ℕ) (copy : Copy) (v : List ℕ) → HasPlace net p place → (process net p).copies place ≡ Some copy → get_or ((process net p).effect v v) place None ≡ Some (copy.passed (get_or v copy.net 0))
  copied p place copy v h is = L.elaborated.bodies.copies_pass p place copy v v h is

  at_source : (n p place : ℕ) → sources_of net n ≡ Driver p place ∷ [] → HasPlace net p place × (target net p place ≡ n)
  at_source n p place e = L.elaborated.wiring.sources_are_drivers n p place (subst (λ (xs : List Source). Contains xs (Driver p place)) (sym e) (Contains-first (Driver p place) []))

  -- ---- nets that change once

  abbrev Keeps : ℕ → (ℕ → Bool) → Type 0
  Keeps n these = (k : ℕ) → these (at k n) ≡ true → (these (at 0 n) ≡ true) ⊎ (these (at last n) ≡ true)

  abbrev Once : ℕ → Type 0
  Once n = (k : ℕ) → (at (suc k) n ≡ at 0 n) ⊎ (at (suc k) n ≡ at last n)

  once_keeps : (n : ℕ) (these : ℕ → Bool) → Once n → Keeps n these
  once_keeps n these once zero h = inl h
  once_keeps n these once (suc k) h = go (once k)
    where
      go : (at (suc k) n ≡ at 0 n) ⊎ (at (suc k) n ≡ at last n) → (these (at 0 n) ≡ true) ⊎ (these (at last n) ≡ true)
      go (inl e) = inl (ap these (sym e) ∙ h)
      go (inr e) = inr (ap these (sym e) ∙ h)

  follows_once : (n : ℕ) → FollowsInputs net n → Once n
  follows_once n (inl g) k = inl (undriven_same (suc k) 0 n g.0)
  follows_once n (inr (p, place, (c, e), looks)) k =
      let (h, t) = at_source n p place e in
      let same = L.elaborated.bodies.entry_looks p place (now k) (now k) (now last) (now last) c h (λ m m_in. undriven_same k last m (looks m m_in).0) in
      inr (subst (λ (m : ℕ). at (suc k) m ≡ at last m) t (some_same _ _ (made_next k p place c h ∙ same ∙ sym (made_last p place c h))))

  -- ---- registers

  held_at : (u : State) (p place : ℕ) (o : IsLaidOver net r (IsSeen net s) u p place) → resets_at o.seen.0 p ≡ true
  held_at u p place o = ap (λ (v : List ℕ). resets (reset_of net p) (λ n. get_or v n 0)) (sym o.seen.1) ∙ o.held

  module _ (p place clock : ℕ) (edge : Edge) (is : IsClockedBy net p clock edge) (h : HasPlace net p place) where
    abbrev entry : Option ℕ
    entry = reset_entry (reset_of net p) place

    -- a register whose reset lays nothing new over it has what the first cycle gave it
    same_out : entry_or entry (r p place) ≡ r p place → (k : ℕ) → out (after net k s) p place ≡ r p place
    same_out e k = go ((hold k).on_clocked p place clock edge is h)
      where
        go : (out (after net k s) p place ≡ r p place) ⊎ IsLaidOver net r (IsSeen net s) (after net k s) p place → out (after net k s) p place ≡ r p place
        go (inl e') = e'
        go (inr o) = o.laid ∙ e

    same_once : entry_or entry (r p place) ≡ r p place → Once (target net p place)
    same_once e k = inr (next_value k p place h ∙ same_out e k ∙ sym (last_value p place h ∙ same_out e last))

    -- what the first cycle gives where there is no edge
    first_without : edge_comes clock edge ≡ false → r p place ≡ entry_or (entry_where (resets_at 0 p) entry) (get_or old (target net p place) 0)
    first_without e = B.registers p place clock edge is h ∙ ap (λ (o : Option ℕ). entry_or o (get_or old (target net p place) 0)) (no_edge_entry (resets_at 0 p) (edge_comes clock edge) (not (holds_back (reset_of net p) (at 0))) entry (get_or ((process net p).acting_effect old) place None) e)

    -- a register that is reset in the end has its reset's entry laid over
    laid_last : resets_at last p ≡ true → out (after net last s) p place ≡ entry_or entry (r p place)
    laid_last t = go ((hold last).on_clocked p place clock edge is h)
      where
        go : (out (after net last s) p place ≡ r p place) ⊎ IsLaidOver net r (IsSeen net s) (after net last s) p place → out (after net last s) p place ≡ entry_or entry (r p place)
        go (inl e) = sym ((hold last).reset_kept p place clock edge is h t) ∙ ap (entry_or entry) e
        go (inr o) = o.laid

    -- without its edge, and where its reset keeps, it changes once
    without_once : edge_comes clock edge ≡ false → ResetKeeps p → Once (target net p place)
    without_once none keeps = go (cases_Bool (resets_at 0 p))
      where
        first_is : (b : Bool) → resets_at 0 p ≡ b → r p place ≡ entry_or (entry_where b entry) (get_or old (target net p place) 0)
        first_is b e = first_without none ∙ ap (λ (c : Bool). entry_or (entry_where c entry) (get_or old (target net p place) 0)) e

        go : (resets_at 0 p ≡ true) ⊎ (resets_at 0 p ≡ false) → Once (target net p place)
        go (inl t) k =
            let e = first_is true t in
            same_once (ap (entry_or entry) e ∙ entry_twice entry (get_or old (target net p place) 0) ∙ sym e) k
        go (inr f) k = by_out ((hold k).on_clocked p place clock edge is h)
          where
            by_out : (out (after net k s) p place ≡ r p place) ⊎ IsLaidOver net r (IsSeen net s) (after net k s) p place → (at (suc k) (target net p place) ≡ at 0 (target net p place)) ⊎ (at (suc k) (target net p place) ≡ at last (target net p place))
            by_out (inl e) = inl (next_value k p place h ∙ e ∙ first_is false f ∙ sym (B.driven p place h))
            by_out (inr o) = by_reset (keeps o.seen.0 (held_at (after net k s) p place o))
              where
                by_reset : (resets_at 0 p ≡ true) ⊎ (resets_at last p ≡ true) → (at (suc k) (target net p place) ≡ at 0 (target net p place)) ⊎ (at (suc k) (target net p place) ≡ at last (target net p place))
                by_reset (inl t) = absurd cc
                by_reset (inr t) = inr (next_value k p place h ∙ o.laid ∙ sym (last_value p place h ∙ laid_last t))

    -- a reset that holds in the beginning lays nothing new over it
    kept_first : resets_at 0 p ≡ true → entry_or entry (r p place) ≡ r p place
    kept_first t = ap (entry_or entry) (sym (B.first_out p place)) ∙ H.reset_kept p place clock edge is h t ∙ B.first_out p place

    -- where the reset is as in the beginning throughout, it changes once
    steady_once : ((j : ℕ) → resets_at j p ≡ resets_at 0 p) → Once (target net p place)
    steady_once same = go (cases_Bool (resets_at 0 p))
      where
        never : resets_at 0 p ≡ false → (k : ℕ) → out (after net k s) p place ≡ r p place
        never f k = by_out ((hold k).on_clocked p place clock edge is h)
          where
            by_out : (out (after net k s) p place ≡ r p place) ⊎ IsLaidOver net r (IsSeen net s) (after net k s) p place → out (after net k s) p place ≡ r p place
            by_out (inl e) = e
            by_out (inr o) =
                let t = held_at (after net k s) p place o in
                let e = same o.seen.0 in
                absurd cc

        go : (resets_at 0 p ≡ true) ⊎ (resets_at 0 p ≡ false) → Once (target net p place)
        go (inl t) k = same_once (kept_first t) k
        go (inr f) k = inr (next_value k p place h ∙ never f k ∙ sym (last_value p place h ∙ never f last))

    -- what is reset to one of these values, if at all, ends with one where the first cycle gave it one
    last_within : (these : ℕ → Bool) → ((v : ℕ) → entry ≡ Some v → these v ≡ true) → these (r p place) ≡ true → these (out (after net last s) p place) ≡ true
    last_within these within t = go entry refl ((hold last).on_clocked p place clock edge is h)
      where
        go : (a : Option ℕ) → entry ≡ a → (out (after net last s) p place ≡ r p place) ⊎ IsLaidOver net r (IsSeen net s) (after net last s) p place → these (out (after net last s) p place) ≡ true
        go a e (inl same) = ap these same ∙ t
        go None e (inr o) = ap these (o.laid ∙ ap (λ (x : Option ℕ). entry_or x (r p place)) e) ∙ t
        go (Some v) e (inr o) = ap these (o.laid ∙ ap (λ (x : Option ℕ). entry_or x (r p place)) e) ∙ within v e

    -- and it keeps these values, where its reset keeps
    within_keeps : (these : ℕ → Bool) → ((v : ℕ) → entry ≡ Some v → these v ≡ true) → (IsSome entry → ResetKeeps p) → Keeps (target net p place) these
    within_keeps these within keeps zero t = inl t
    within_keeps these within keeps (suc k) t = inr (ap these (last_value p place h) ∙ by_out ((hold k).on_clocked p place clock edge is h))
      where
        has : these (out (after net k s) p place) ≡ true
        has = ap these (sym (next_value k p place h)) ∙ t

        from_first : out (after net k s) p place ≡ r p place → these (out (after net last s) p place) ≡ true
        from_first e = last_within these within (ap these (sym e) ∙ has)

        by_reset : out (after net k s) p place ≡ entry_or entry (r p place) → (resets_at 0 p ≡ true) ⊎ (resets_at last p ≡ true) → these (out (after net last s) p place) ≡ true
        by_reset laid (inl f) = from_first (laid ∙ kept_first f)
        by_reset laid (inr f) = ap these (laid_last f ∙ sym laid) ∙ has

        by_entry : IsLaidOver net r (IsSeen net s) (after net k s) p place → (entry ≡ None) ⊎ IsSome entry → these (out (after net last s) p place) ≡ true
        by_entry o (inl none) = from_first (o.laid ∙ ap (λ (x : Option ℕ). entry_or x (r p place)) none)
        by_entry o (inr some) = by_reset o.laid (keeps some o.seen.0 (held_at (after net k s) p place o))

        by_out : (out (after net k s) p place ≡ r p place) ⊎ IsLaidOver net r (IsSeen net s) (after net k s) p place → these (out (after net last s) p place) ≡ true
        by_out (inl e) = from_first e
        by_out (inr o) = by_entry o (none_or_some entry)

  -- ---- nets made of inputs

  settled_at_edge : (clock : ℕ) (edge : Edge) → edge_comes clock edge ≡ true → IsSettled net old
  settled_at_edge clock edge e = go B.settled
    where
      go : IsSettled net old ⊎ ((old ≡ net.start) × ((clock : ℕ) (edge : Edge) → edge_comes clock edge ≡ false)) → IsSettled net old
      go (inl is) = is
      go (inr (start, none)) = let f = none clock edge in absurd cc

  -- what a combinational driver has where its entry is as before
  as_before : (p place j : ℕ) → IsSettled net old → IsCombinational net p → HasPlace net p place
      → ((k : ℕ) → j ≡ suc k → get_or ((process net p).effect (now k) (now k)) place None ≡ get_or ((process net p).effect old old) place None) → at j (target net p place) ≡ get_or old (target net p place) 0
  as_before p place zero settled c h same = B.driven p place h
  as_before p place (suc k) settled c h same = some_same _ _ (made_next k p place c h ∙ same k refl ∙ settled p place c h)

  module _ (q clock : ℕ) (edge : Edge) (is : IsClockedBy net q clock edge) (comes : edge_comes clock edge ≡ true) where
    outside_steady : (j n : ℕ) → IsFromOutside net n → at j n ≡ get_or old n 0
    outside_steady j n g = undriven_same j 0 n g.0 ∙ B.steady q clock edge is comes n g

    made_steady : (n : ℕ) → IsMadeOfInputs net n → (j : ℕ) → at j n ≡ get_or old n 0
    made_steady n (follows m (inl g)) j = outside_steady j n g
    made_steady n (follows m (inr (p, place, (c, e), looks))) j =
        let (h, t) = at_source n p place e in
        subst (λ (m : ℕ). at j m ≡ get_or old m 0) t (as_before p place j (settled_at_edge clock edge comes) c h (λ k e. L.elaborated.bodies.entry_looks p place (now k) (now k) old old c h (λ x x_in. outside_steady k x (looks x x_in))))
    made_steady n (copies_made m p place copy (c, e) copies made) j =
        let (h, t) = at_source n p place e in
        subst (λ (m : ℕ). at j m ≡ get_or old m 0) t
        (as_before p place j (settled_at_edge clock edge comes) c h (λ k e. copied p place copy (now k) h copies ∙ ap (λ (x : ℕ). Some (copy.passed x)) (made_steady copy.net made k) ∙ sym (copied p place copy old h copies)))

  -- ---- copies

  at_start : (n : ℕ) → old ≡ net.start → IsDriven net n → at 0 n ≡ get_or net.start n 0
  at_start n start (p, place, h, t) = subst (λ (m : ℕ). at 0 m ≡ get_or net.start m 0) t (B.driven p place h ∙ ap (λ (v : List ℕ). get_or v (target net p place) 0) start)

  quiet_last : (n : ℕ) (these : ℕ → Bool) → old ≡ net.start → ((clock : ℕ) (edge : Edge) → edge_comes clock edge ≡ false) → IsDriven net n → StartsQuietly net n these → these (at 0 n) ≡ true → these (at last n) ≡ true
  quiet_last n these start none driven (starts_without f) h = let e = ap these (at_start n start driven) in absurd cc
  quiet_last n these start none driven (resets_to_these (p, place, ((clock, (edge, is)), e), within)) h =
      let (l, t) = at_source n p place e in
      subst (λ (m : ℕ). these (at last m) ≡ true) t (ap these (last_value p place l) ∙ last_within p place clock edge is l these within (first_these l t (reset_entry (reset_of net p) place) refl (resets_at 0 p) refl))
    where
      begun : HasPlace net p place → target net p place ≡ n → these (get_or old (target net p place) 0) ≡ true
      begun l t = ap these (sym (B.driven p place l)) ∙ subst (λ (m : ℕ). these (at 0 m) ≡ true) (sym t) h

      first_these : HasPlace net p place → target net p place ≡ n → (o : Option ℕ) → reset_entry (reset_of net p) place ≡ o → (b : Bool) → resets_at 0 p ≡ b → these (r p place) ≡ true
      first_these l t o a b f = ap these (first_without p place clock edge is l (none clock edge)) ∙ ((λ i. these (entry_or (entry_where (f i) (a i)) (get_or old (target net p place) 0))) ∙ by o a b)
        where
          by : (o : Option ℕ) → reset_entry (reset_of net p) place ≡ o → (b : Bool) → these (entry_or (entry_where b o) (get_or old (target net p place) 0)) ≡ true
          by (Some v) a true = within v a
          by None a true = begun l t
          by o a false = begun l t

  copy_keeps : (n p place : ℕ) (these : ℕ → Bool) (copy : Copy) → IsCombinationalNet net n p place → Copies net p place copy → StartsQuietly net copy.net (λ v. these (copy.passed v)) → Keeps copy.net (λ v. these (copy.passed v)) → Keeps n these
  copy_keeps n p place these copy made copies quiet keeps zero h = inl h
  copy_keeps n p place these copy (c, e) copies quiet keeps (suc k) h = by_net (keeps k (ap these (some_same _ _ (sym (next_of k))) ∙ h))
    where
      l : HasPlace net p place
      l = (at_source n p place e).0

      t : target net p place ≡ n
      t = (at_source n p place e).1

      next_of : (k : ℕ) → Some (at (suc k) n) ≡ Some (copy.passed (at k copy.net))
      next_of k = subst (λ (m : ℕ). Some (at (suc k) m) ≡ Some (copy.passed (at k copy.net))) t (made_next k p place c l ∙ copied p place copy (now k) l copies)

      last_of : at last n ≡ copy.passed (at last copy.net)
      last_of = subst (λ (m : ℕ). at last m ≡ copy.passed (at last copy.net)) t (some_same _ _ (made_last p place c l ∙ copied p place copy (now last) l copies))

      in_end : these (copy.passed (at last copy.net)) ≡ true → (these (at 0 n) ≡ true) ⊎ (these (at last n) ≡ true)
      in_end g = inr (ap these last_of ∙ g)

      by_begin : these (copy.passed (at 0 copy.net)) ≡ true → IsDriven net copy.net ⊎ (IsDriven net copy.net → ⊥) → IsSettled net old ⊎ ((old ≡ net.start) × ((clock : ℕ) (edge : Edge) → edge_comes clock edge ≡ false)) → (these (at 0 n) ≡ true) ⊎ (these (at last n) ≡ true)
      by_begin g (inr free) how = in_end (ap (λ (x : ℕ). these (copy.passed x)) (undriven_same last 0 copy.net free) ∙ g)
      by_begin g (inl driven) (inr (start, none)) = in_end (quiet_last copy.net (λ v. these (copy.passed v)) start none driven quiet g)
      by_begin g (inl (q, qp, k, u)) (inl settled) =
          let of_net : at 0 copy.net ≡ get_or old copy.net 0 = subst (λ (m : ℕ). at 0 m ≡ get_or old m 0) u (B.driven q qp k) in
          let of_copy : at 0 n ≡ copy.passed (get_or old copy.net 0)
          = subst (λ (m : ℕ). at 0 m ≡ copy.passed (get_or old copy.net 0)) t (B.driven p place l ∙ some_same _ _ (sym (settled p place c l) ∙ copied p place copy old l copies)) in
          inl (ap these (of_copy ∙ ap copy.passed (sym of_net)) ∙ g)

      by_net : (these (copy.passed (at 0 copy.net)) ≡ true) ⊎ (these (copy.passed (at last copy.net)) ≡ true) → (these (at 0 n) ≡ true) ⊎ (these (at last n) ≡ true)
      by_net (inl g) = by_begin g (driven_or_not net L copy.net) B.settled
      by_net (inr g) = in_end g

  -- ---- calm nets

  -- a reset keeps if it does where it is calm
  by_calm : (p : ℕ) (reset : Reset) → HasReset net p reset → (IsCalm net reset.net (λ v. v == reset.value) → Keeps reset.net (λ v. v == reset.value)) → ResetKeeps p
  by_calm p reset has keeps k t = go (cases_Bool (resets_at 0 p)) (cases_Bool (resets_at last p))
    where
      is : (j : ℕ) → resets_at j p ≡ (at j reset.net == reset.value)
      is j = ap (λ (o : Option Reset). resets o (at j)) has

      none : (resets_at 0 p ≡ false) → (resets_at last p ≡ false) → (at 0 reset.net == reset.value ≡ true) ⊎ (at last reset.net == reset.value ≡ true) → ⊥
      none a b (inl c) = let d = is 0 in cc
      none a b (inr c) = let d = is last in cc

      contradiction : resets_at 0 p ≡ false → resets_at last p ≡ false → IsCalm net reset.net (λ v. v == reset.value) → ⊥
      contradiction a b calm = none a b (keeps calm k (sym (is k) ∙ t))

      no_clock : IsClock net reset.net → ⊥
      no_clock clock = A (ClockAsData p reset.net) (clock, inr (reset, has, refl))

      -- in the narrow language it is an input
      never : resets_at 0 p ≡ false → resets_at last p ≡ false → (IsInput net reset.net × (reset.gates ≡ true)) ⊎ (net.wide ≡ true) → ⊥
      never a b (inl (input, gating)) = contradiction a b (follows_inputs reset.net _ (inl (input_not_driven net L reset.net input, no_clock)))
      never a b (inr wide) = A (MixedProcess p) (inr (record { is_wide = wide; reset = reset; is_reset = has; no_clock = no_clock; not_calm = contradiction a b }))

      go : (resets_at 0 p ≡ true) ⊎ (resets_at 0 p ≡ false) → (resets_at last p ≡ true) ⊎ (resets_at last p ≡ false) → (resets_at 0 p ≡ true) ⊎ (resets_at last p ≡ true)
      go (inl a) b = inl a
      go (inr a) (inl b) = inr b
      go (inr a) (inr b) = absurd (never a b (L.elaborated.bodies.resets_are_narrow p reset has))

  -- a register whose reset is made of inputs changes once
  set_once : (p place clock : ℕ) (edge : Edge) (reset : Reset) → IsClockedBy net p clock edge → HasPlace net p place → HasReset net p reset → IsMadeOfInputs net reset.net → (IsSome (reset_entry (reset_of net p) place) → ResetKeeps p) → Once (target net p place)
  set_once p place clock edge reset is h has made keeps = go (cases_Bool (edge_comes clock edge)) (none_or_some (reset_entry (reset_of net p) place))
    where
      same : edge_comes clock edge ≡ true → (j : ℕ) → resets_at j p ≡ resets_at 0 p
      same comes j =
          ap (λ (o : Option Reset). resets o (at j)) has
          ∙ ap (λ (x : ℕ). x == reset.value) (made_steady p clock edge is comes reset.net made j ∙ sym (made_steady p clock edge is comes reset.net made 0))
          ∙ sym (ap (λ (o : Option Reset). resets o (at 0)) has)

      go : (edge_comes clock edge ≡ true) ⊎ (edge_comes clock edge ≡ false) → (reset_entry (reset_of net p) place ≡ None) ⊎ IsSome (reset_entry (reset_of net p) place) → Once (target net p place)
      go (inl comes) some = steady_once p place clock edge is h (same comes)
      go (inr none) (inl e) = same_once p place clock edge is h (ap (λ (o : Option ℕ). entry_or o (r p place)) e)
      go (inr none) (inr some) = without_once p place clock edge is h none (keeps some)

  -- A net keeps its values if it is calm for them: by the numbers along which nets are copied and reset.
  abbrev CalmKeeps : ℕ → Type 0
  CalmKeeps many = (n : ℕ) (these : ℕ → Bool) → L.of_net n < many → IsCalm net n these → Keeps n these

  each_reset_keeps : (p : ℕ) → ((reset : Reset) → HasReset net p reset → IsCalm net reset.net (λ v. v == reset.value) → Keeps reset.net (λ v. v == reset.value)) → ResetKeeps p
  each_reset_keeps p keeps = go (reset_of net p) refl
    where
      go : (o : Option Reset) → reset_of net p ≡ o → ResetKeeps p
      go None e = λ k t. let f = ap (λ (o : Option Reset). resets o (at k)) e in absurd cc
      go (Some reset) e = by_calm p reset e (keeps reset e)

  reset_below : (many p place : ℕ) → HasPlace net p place → L.of_net (target net p place) < suc many → CalmKeeps many → IsSome (reset_entry (reset_of net p) place) → ResetKeeps p
  reset_below many p place h l more some = each_reset_keeps p (λ reset has. of_net reset has (driven_or_not net L reset.net))
    where
      of_net : (reset : Reset) → HasReset net p reset → IsDriven net reset.net ⊎ (IsDriven net reset.net → ⊥) → IsCalm net reset.net (λ v. v == reset.value) → Keeps reset.net (λ v. v == reset.value)
      of_net reset has (inl driven) calm =
          let rises = L.resets_rise p place reset.net (((reset, has, refl), driven), some) h in
          more reset.net (λ v. v == reset.value) (omega arith) calm
      of_net reset has (inr free) calm = once_keeps reset.net (λ v. v == reset.value) (λ k. inl (undriven_same (suc k) 0 reset.net free))

  copied_below : (many n p place : ℕ) (these : ℕ → Bool) (copy : Copy) → L.of_net n < suc many → IsCombinationalNet net n p place → Copies net p place copy
      → (L.of_net copy.net < many → Keeps copy.net (λ v. these (copy.passed v))) → Keeps copy.net (λ v. these (copy.passed v))
  copied_below many n p place these copy l (c, e) copies more = let (h, t) = at_source n p place e in go t (copy_rises net L p place copy c h copies)
    where
      go : target net p place ≡ n → (L.of_net copy.net < L.of_net (target net p place)) ⊎ ((a b : ℕ) → copy.passed a ≡ copy.passed b) → Keeps copy.net (λ v. these (copy.passed v))
      go t (inl rises) = let same = ap L.of_net t in more (omega arith)
      go t (inr one) = λ k has. inr (ap these (one (at last copy.net) (at k copy.net)) ∙ has)

  keeps_below : (many : ℕ) → CalmKeeps many
  keeps_below zero n these l calm = absurd (omega arith)
  keeps_below (suc many) n these l (follows_inputs m those f) = once_keeps n these (follows_once n f)
  keeps_below (suc many) n these l (ends_reset m those (p, place, ((clock, (edge, is)), e), within)) =
      let (h, t) = at_source n p place e in
      let below = subst (λ (m : ℕ). L.of_net m < suc many) (sym t) l in
      subst (λ (m : ℕ). Keeps m these) t (within_keeps p place clock edge is h these within (reset_below many p place h below (keeps_below many)))
  keeps_below (suc many) n these l (reset_by_inputs m p place those reset ((clock, (edge, is)), e) has made) =
      let (h, t) = at_source n p place e in
      let below = subst (λ (m : ℕ). L.of_net m < suc many) (sym t) l in
      once_keeps n these (subst (λ (m : ℕ). Once m) t (set_once p place clock edge reset is h has made (reset_below many p place h below (keeps_below many))))
  keeps_below (suc many) n these l (copies_calm m p place those copy is copies quiet calm) =
      copy_keeps n p place these copy is copies quiet (copied_below many n p place these copy l is copies (λ b. keeps_below many copy.net (λ v. these (copy.passed v)) b calm))

  pub calm_keeps : (n : ℕ) (these : ℕ → Bool) → IsCalm net n these → Keeps n these
  calm_keeps n these = keeps_below (suc (L.of_net n)) n these (omega arith)

  pub reset_keeps : (p : ℕ) → ResetKeeps p
  reset_keeps p = each_reset_keeps p (λ reset has. calm_keeps reset.net (λ v. v == reset.value))

  -- So what a register has in the end is its reset's entry, where the reset holds in the beginning or in the end, else its
  -- branch's at its edge, where no reset gates it in the beginning, and else what it had.
  pub register_settled : (p place clock : ℕ) (edge : Edge) → IsClockedBy net p clock edge → HasPlace net p place
      → at last (target net p place)
      ≡ entry_or
      (clocked_entry (resets_at 0 p || resets_at last p) (edge_comes clock edge && not (holds_back (reset_of net p) (at 0))) (reset_entry (reset_of net p) place) (get_or ((process net p).acting_effect old) place None))
      (get_or old (target net p place) 0)
  register_settled p place clock edge is h =
      last_value p place h
      ∙ laid_out (reset_entry (reset_of net p) place) (entry_where (edge_comes clock edge && not (holds_back (reset_of net p) (at 0))) (get_or ((process net p).acting_effect old) place None)) (resets_at 0 p) (resets_at last p) (out (after net last s) p place) (r p place) (get_or old (target net p place) 0)
      (B.registers p place clock edge is h) (held ((hold last).on_clocked p place clock edge is h)) (laid_last p place clock edge is h)
    where
      held : (out (after net last s) p place ≡ r p place) ⊎ IsLaidOver net r (IsSeen net s) (after net last s) p place
          → (out (after net last s) p place ≡ r p place) ⊎ ((out (after net last s) p place ≡ entry_or (reset_entry (reset_of net p) place) (r p place)) × ((resets_at 0 p ≡ true) ⊎ (resets_at last p ≡ true)))
      held (inl e) = inl e
      held (inr o) = inr (o.laid, reset_keeps p o.seen.0 (held_at (after net last s) p place o))
