-- Whether a net is calm can be decided: along its copies, of which each net has one at most, and which end or come back.
use Rattle.std.proofs.Common.{◌≡◌, ℕ, zero, suc, ◌<◌, ◌≤◌, Bool, true, false, List, [], ◌∷◌, length, get_or, Option, Some, None, refl, sym, ap, ◌∙◌, subst, arith, ◌⊎◌, inl, inr, Contains}
use Rattle.std.specs.List.{list_any}
use Rattle.std.proofs.lemmas.List.{get_or_past}
use Rattle.std.proofs.lemmas.List.Elements.{Contains-get_or}
use Rattle.std.proofs.lemmas.Bool.{cases_Bool, cases_eq, cases_lt}
use Rattle.rtl_model.specs.simulation.Netlist.{Clocked, Combinational, Copy, Driver, Edge, HasReset, Idle, IsClock, IsClockOf, IsCombinational, IsDriven, Mixed, Netlist, no_process, Process, process, ProcessKind, Reset, reset_entry, reset_of, Source, sources_of}
use Rattle.rtl_model.specs.simulation.Elaborated.{IsElaborated}
use Rattle.rtl_model.specs.simulation.Calm.{IsFromOutside, IsCombinationalNet, FollowsInputs, Copies, IsMadeOfInputs, follows, copies_made, ResetsTo, StartsQuietly, starts_without, resets_to_these}
use Rattle.rtl_model.specs.simulation.Calm.{IsCalm, follows_inputs, ends_reset, reset_by_inputs, copies_calm}
use Rattle.rtl_model.specs.simulation.Levels.{is_driver}
use Rattle.rtl_model.specs.simulation.Laws.{CalmIsDecided}
use Rattle.rtl_model.proofs.basics.Lists.{any_at, Contains-first, Contains-one, get_or_default, none_contained}
use Rattle.rtl_model.proofs.basics.Search.{both, either, search_below}
use Rattle.rtl_model.proofs.basics.Walks.{IsStep, some_walk_or_none, Walks}

abbrev Decided : Type 0 → Type 0
Decided P = P ⊎ (P → ⊥)

not_decided : {P : Type 0} → Decided P → Decided (P → ⊥)
not_decided (inl h) = inr (λ n. n h)
not_decided (inr n) = inl n

-- whether all of a list have a property
all_decided : (P : ℕ → Type 0) → ((n : ℕ) → Decided (P n)) → (xs : List ℕ) → Decided ((n : ℕ) → Contains xs n → P n)
all_decided P d xs = go (search_below (λ k. P (get_or xs k 0) → ⊥) (λ k. not_decided (d (get_or xs k 0))) (length xs))
  where
    holds : (n : ℕ) → ((k : ℕ) → k < length xs → (P (get_or xs k 0) → ⊥) → ⊥) → Contains xs n → Decided (P n) → P n
    holds n none c (inl h) = h
    holds n none (k, l, e) (inr h) = absurd (none k l (λ p. h (subst P (get_or_default xs k 0 n l ∙ e) p)))

    go : ((k : ℕ) × (k < length xs) × (P (get_or xs k 0) → ⊥)) ⊎ ((k : ℕ) → k < length xs → (P (get_or xs k 0) → ⊥) → ⊥) → Decided ((n : ℕ) → Contains xs n → P n)
    go (inl (k, l, h)) = inr (λ all. h (all (get_or xs k 0) (Contains-get_or xs k 0 l)))
    go (inr none) = inl (λ n c. holds n none c (d n))

module _ (net : Netlist) (E : IsElaborated net) where
  -- ---- where a net's values come from

  driven_decided : (n : ℕ) → Decided (IsDriven net n)
  driven_decided n = go (cases_Bool (list_any is_driver (sources_of net n)))
    where
      of_source : (x : Source) → Contains (sources_of net n) x → is_driver x ≡ true → IsDriven net n
      of_source (Driver p place) c t = let (h, e) = E.wiring.sources_are_drivers n p place c in (p, place, h, e)
      of_source (Idle v) c t = absurd cc

      none : list_any is_driver (sources_of net n) ≡ false → IsDriven net n → ⊥
      none f (p, place, h, t) =
          let c = subst (λ (m : ℕ). Contains (sources_of net m) (Driver p place)) t (E.wiring.drivers_are_sources p place h) in
          let g = none_contained is_driver (sources_of net n) (Driver p place) f c in
          cc

      go : (list_any is_driver (sources_of net n) ≡ true) ⊎ (list_any is_driver (sources_of net n) ≡ false) → Decided (IsDriven net n)
      go (inl t) = let (x, c, d) = any_at is_driver (sources_of net n) t in inl (of_source x c d)
      go (inr f) = inr (none f)

  clock_of_decided : (p n : ℕ) → Decided (IsClockOf net p n)
  clock_of_decided p n = go (process net p).kind refl
    where
      of_clock : (clock : ℕ) (edge : Edge) (reset : Option Reset) → (process net p).kind ≡ Clocked clock edge reset → (clock ≡ n) ⊎ (clock ≡ n → ⊥) → Decided (IsClockOf net p n)
      of_clock clock edge reset e (inl same) = inl (edge, (reset, subst (λ (m : ℕ). (process net p).kind ≡ Clocked m edge reset) same e))
      of_clock clock edge reset e (inr other) = inr (λ (x, (y, f)). other (let g : Clocked clock edge reset ≡ Clocked n x y = sym e ∙ f in cc))

      go : (k : ProcessKind) → (process net p).kind ≡ k → Decided (IsClockOf net p n)
      go (Clocked clock edge reset) e = of_clock clock edge reset e (cases_eq clock n)
      go Combinational e = inr (λ (x, (y, f)). cc)
      go Mixed e = inr (λ (x, (y, f)). cc)

  clock_decided : (n : ℕ) → Decided (IsClock net n)
  clock_decided n = go (search_below (λ p. IsClockOf net p n) (λ p. clock_of_decided p n) (length net.processes))
    where
      there : (p : ℕ) → IsClockOf net p n → (p < length net.processes) ⊎ (length net.processes ≤ p) → p < length net.processes
      there p c (inl l) = l
      there p (edge, (reset, e)) (inr l) = let k : (process net p).kind ≡ Combinational = ap (λ (x : Process). x.kind) (get_or_past net.processes p no_process l) in absurd cc

      go : ((p : ℕ) × (p < length net.processes) × IsClockOf net p n) ⊎ ((p : ℕ) → p < length net.processes → IsClockOf net p n → ⊥) → Decided (IsClock net n)
      go (inl (p, l, c)) = inl (p, c)
      go (inr none) = inr (λ (p, c). none p (there p c (cases_lt p (length net.processes))) c)

  outside_decided : (n : ℕ) → Decided (IsFromOutside net n)
  outside_decided n = both (not_decided (driven_decided n)) (not_decided (clock_decided n))

  -- ---- by its one source

  abbrev HasSource : ℕ → ℕ → ℕ → Type 0
  HasSource n p place = sources_of net n ≡ Driver p place ∷ []

  one_source : (n p place q qp : ℕ) → HasSource n p place → HasSource n q qp → Driver p place ≡ Driver q qp
  one_source n p place q qp e f = Contains-one (Driver p place) (Driver q qp) (subst (λ (xs : List Source). Contains xs (Driver q qp)) (sym f ∙ e) (Contains-first (Driver q qp) []))

  -- a property of the one source, if there is one, can be decided
  by_source : (n : ℕ) (P : ℕ → ℕ → Type 0) → ((p place : ℕ) → Decided (P p place)) → Decided ((p : ℕ) × (place : ℕ) × HasSource n p place × P p place)
  by_source n P d = go (sources_of net n) refl
    where
      none : (xs : List Source) → sources_of net n ≡ xs → ((p place : ℕ) → xs ≡ Driver p place ∷ [] → ⊥) → Decided ((p : ℕ) × (place : ℕ) × HasSource n p place × P p place)
      none xs e not = inr (λ (p, place, h, x). not p place (sym e ∙ h))

      at : (q qp : ℕ) → HasSource n q qp → Decided (P q qp) → Decided ((p : ℕ) × (place : ℕ) × HasSource n p place × P p place)
      at q qp e (inl h) = inl (q, qp, e, h)
      at q qp e (inr h) = inr (λ (p, place, f, x).
          let same = one_source n q qp p place e f in
          let a : p ≡ q = cc in
          let b : place ≡ qp = cc in
          h (subst (λ (k : ℕ). P q k) b (subst (λ (k : ℕ). P k place) a x)))

      go : (xs : List Source) → sources_of net n ≡ xs → Decided ((p : ℕ) × (place : ℕ) × HasSource n p place × P p place)
      go [] e = none [] e (λ p place h. cc)
      go (Idle v ∷ more) e = none (Idle v ∷ more) e (λ p place h. cc)
      go (Driver q qp ∷ x ∷ more) e = none (Driver q qp ∷ x ∷ more) e (λ p place h. let k : 2 ≤ 1 = subst (λ (xs : List Source). 2 ≤ length xs) h (omega arith) in absurd (omega arith))
      go (Driver q qp ∷ []) e = at q qp e (d q qp)

  combinational_decided : (p : ℕ) → Decided (IsCombinational net p)
  combinational_decided p = both (below (cases_lt p (length net.processes))) (kind (process net p).kind refl)
    where
      below : (p < length net.processes) ⊎ (length net.processes ≤ p) → Decided (p < length net.processes)
      below (inl l) = inl l
      below (inr l) = inr (λ k. absurd (omega arith))

      kind : (k : ProcessKind) → (process net p).kind ≡ k → Decided ((process net p).kind ≡ Combinational)
      kind Combinational e = inl e
      kind (Clocked clock edge reset) e = inr (λ f. cc)
      kind Mixed e = inr (λ f. cc)

  clocked_decided : (p : ℕ) → Decided ((clock : ℕ) × IsClockOf net p clock)
  clocked_decided p = go (process net p).kind refl
    where
      go : (k : ProcessKind) → (process net p).kind ≡ k → Decided ((clock : ℕ) × IsClockOf net p clock)
      go (Clocked clock edge reset) e = inl (clock, (edge, (reset, e)))
      go Combinational e = inr (λ (clock, (edge, (reset, f))). cc)
      go Mixed e = inr (λ (clock, (edge, (reset, f))). cc)

  follows_decided : (n : ℕ) → Decided (FollowsInputs net n)
  follows_decided n = either (outside_decided n) (looks (by_source n (λ p place. IsCombinational net p × ((m : ℕ) → Contains ((process net p).looks place) m → IsFromOutside net m)) (λ p place. both (combinational_decided p) (all_decided (IsFromOutside net) outside_decided ((process net p).looks place)))))
    where
      looks : Decided ((p : ℕ) × (place : ℕ) × HasSource n p place × (IsCombinational net p × ((m : ℕ) → Contains ((process net p).looks place) m → IsFromOutside net m)))
          → Decided ((p : ℕ) × (place : ℕ) × IsCombinationalNet net n p place × ((m : ℕ) → Contains ((process net p).looks place) m → IsFromOutside net m))
      looks (inl (p, place, e, h)) = inl (p, place, (h.0, e), h.1)
      looks (inr none) = inr (λ (p, place, h, l). none (p, place, h.1, (h.0, l)))

  -- ---- copies

  abbrev CopyOf : ℕ → ℕ → ℕ → Copy → Type 0
  CopyOf n p place copy = IsCombinationalNet net n p place × Copies net p place copy

  abbrev Steps : ℕ → ℕ → Type 0
  Steps n m = (p : ℕ) × (place : ℕ) × (copy : Copy) × CopyOf n p place copy × (copy.net ≡ m)

  same_copy : (n p place q qp : ℕ) (a b : Copy) → CopyOf n p place a → CopyOf n q qp b → a ≡ b
  same_copy n p place q qp a b (h, c) (k, d) =
      let same = one_source n p place q qp h.1 k.1 in
      let x : p ≡ q = cc in
      let y : place ≡ qp = cc in
      let e : (process net p).copies place ≡ (process net q).copies qp = (λ i. (process net (x i)).copies (y i)) in
      let f : Some a ≡ Some b = sym c ∙ e ∙ d in
      cc

  copy_decided : (n : ℕ) → Decided ((p : ℕ) × (place : ℕ) × (copy : Copy) × CopyOf n p place copy)
  copy_decided n = go (by_source n (λ p place. IsCombinational net p × ((copy : Copy) × Copies net p place copy)) (λ p place. both (combinational_decided p) (some p place ((process net p).copies place) refl)))
    where
      some : (p place : ℕ) (o : Option Copy) → (process net p).copies place ≡ o → Decided ((copy : Copy) × Copies net p place copy)
      some p place None e = inr (λ (copy, h). cc)
      some p place (Some copy) e = inl (copy, e)

      go : Decided ((p : ℕ) × (place : ℕ) × HasSource n p place × (IsCombinational net p × ((copy : Copy) × Copies net p place copy))) → Decided ((p : ℕ) × (place : ℕ) × (copy : Copy) × CopyOf n p place copy)
      go (inl (p, place, e, h)) = inl (p, place, h.1.0, ((h.0, e), h.1.1))
      go (inr none) = inr (λ (p, place, copy, h). none (p, place, h.0.1, (h.0.0, (copy, h.1))))

  step_one : (n m k : ℕ) → Steps n m → Steps n k → m ≡ k
  step_one n m k (p, place, a, h, e) (q, qp, b, g, f) = sym e ∙ ap (λ (c : Copy). c.net) (same_copy n p place q qp a b h g) ∙ f

  step_below : (n m : ℕ) → Steps n m → n < length net.start
  step_below n m (p, place, a, h, e) =
      let (l, t) = E.wiring.sources_are_drivers n p place (subst (λ (xs : List Source). Contains xs (Driver p place)) (sym h.0.1) (Contains-first (Driver p place) [])) in
      subst (λ (x : ℕ). x < length net.start) t (E.wiring.targets_are_nets p place l)

  step_decided : (n : ℕ) → ((m : ℕ) × Steps n m) ⊎ ((m : ℕ) → Steps n m → ⊥)
  step_decided n = go (copy_decided n)
    where
      go : Decided ((p : ℕ) × (place : ℕ) × (copy : Copy) × CopyOf n p place copy) → ((m : ℕ) × Steps n m) ⊎ ((m : ℕ) → Steps n m → ⊥)
      go (inl (p, place, copy, h)) = inl (copy.net, (p, place, copy, h, refl))
      go (inr none) = inr (λ m (p, place, copy, h, e). none (p, place, copy, h))

  steps : (Ends : ℕ → Type 0) → ((n : ℕ) → Decided (Ends n)) → IsStep Steps Ends (length net.start)
  steps Ends d = record { one = step_one; below = step_below; steps_or_not = step_decided; ends_or_not = d }

  -- ---- what is made of inputs

  made_decided : (n : ℕ) → Decided (IsMadeOfInputs net n)
  made_decided n = go (some_walk_or_none Steps (FollowsInputs net) (length net.start) (steps (FollowsInputs net) follows_decided) n)
    where
      made : (many m : ℕ) → Walks Steps (FollowsInputs net) many m → IsMadeOfInputs net m
      made zero m w = follows m w
      made (suc many) m (k, (p, place, copy, h, e), w) = copies_made m p place copy h.0 h.1 (subst (λ (x : ℕ). IsMadeOfInputs net x) (sym e) (made many k w))

      walk : (m : ℕ) → IsMadeOfInputs net m → (many : ℕ) × Walks Steps (FollowsInputs net) many m
      walk m (follows k f) = (0, f)
      walk m (copies_made k p place copy c is more) = let (many, w) = walk copy.net more in (suc many, (copy.net, (p, place, copy, (c, is), refl), w))

      go : ((many : ℕ) × Walks Steps (FollowsInputs net) many n) ⊎ ((many : ℕ) → Walks Steps (FollowsInputs net) many n → ⊥) → Decided (IsMadeOfInputs net n)
      go (inl (many, w)) = inl (made many n w)
      go (inr none) = inr (λ h. let (many, w) = walk n h in none many w)

  -- ---- what is calm

  -- where copies end
  abbrev IsEnd : ℕ → Type 0
  IsEnd n = FollowsInputs net n ⊎ ((p : ℕ) × (place : ℕ) × HasSource n p place × ((clock : ℕ) × IsClockOf net p clock))

  end_decided : (n : ℕ) → Decided (IsEnd n)
  end_decided n = either (follows_decided n) (by_source n (λ p place. (clock : ℕ) × IsClockOf net p clock) (λ p place. clocked_decided p))

  -- the driver of p at this place is reset to one of these values, if at all
  abbrev Within : (ℕ → Bool) → ℕ → ℕ → Type 0
  Within these p place = (value : ℕ) → reset_entry (reset_of net p) place ≡ Some value → these value ≡ true

  resets_to_decided : (n : ℕ) (these : ℕ → Bool) → Decided (ResetsTo net n these)
  resets_to_decided n these = turned (by_source n (λ p place. ((clock : ℕ) × IsClockOf net p clock) × Within these p place) (λ p place. both (clocked_decided p) (within p place (reset_entry (reset_of net p) place) refl)))
    where
      of_value : (p place : ℕ) (v : ℕ) → reset_entry (reset_of net p) place ≡ Some v → (these v ≡ true) ⊎ (these v ≡ false) → Decided (Within these p place)
      of_value p place v e (inl t) = inl (λ value f. let k : Some v ≡ Some value = sym e ∙ f in let l : v ≡ value = cc in ap these (sym l) ∙ t)
      of_value p place v e (inr t) = inr (λ all. let k = all v e in cc)

      within : (p place : ℕ) (o : Option ℕ) → reset_entry (reset_of net p) place ≡ o → Decided (Within these p place)
      within p place None e = inl (λ value f. cc)
      within p place (Some v) e = of_value p place v e (cases_Bool (these v))

      turned : Decided ((p : ℕ) × (place : ℕ) × HasSource n p place × (((clock : ℕ) × IsClockOf net p clock) × Within these p place)) → Decided (ResetsTo net n these)
      turned (inl (p, place, e, (c, all))) = inl (p, place, (c, e), all)
      turned (inr none) = inr (λ (p, place, is, all). none (p, place, is.1, (is.0, all)))

  abbrev ByInputs : ℕ → ℕ → Type 0
  ByInputs p place = ((clock : ℕ) × IsClockOf net p clock) × ((reset : Reset) × HasReset net p reset × IsMadeOfInputs net reset.net)

  -- calm, but not as a copy
  abbrev IsStill : ℕ → (ℕ → Bool) → Type 0
  IsStill n these = FollowsInputs net n ⊎ (ResetsTo net n these ⊎ ((p : ℕ) × (place : ℕ) × HasSource n p place × ByInputs p place))

  still_decided : (n : ℕ) (these : ℕ → Bool) → Decided (IsStill n these)
  still_decided n these = either (follows_decided n) (either (resets_to_decided n these) (by_source n ByInputs (λ p place. both (clocked_decided p) (by p (reset_of net p) refl))))
    where
      of_reset : (p : ℕ) (reset : Reset) → reset_of net p ≡ Some reset → Decided (IsMadeOfInputs net reset.net) → Decided ((reset : Reset) × HasReset net p reset × IsMadeOfInputs net reset.net)
      of_reset p reset e (inl h) = inl (reset, e, h)
      of_reset p reset e (inr h) = inr (λ (other, f, g). h (subst (λ (r : Reset). IsMadeOfInputs net r.net) (let k : Some other ≡ Some reset = sym f ∙ e in let l : other ≡ reset = cc in l) g))

      by : (p : ℕ) (o : Option Reset) → reset_of net p ≡ o → Decided ((reset : Reset) × HasReset net p reset × IsMadeOfInputs net reset.net)
      by p None e = inr (λ (reset, f, g). cc)
      by p (Some reset) e = of_reset p reset e (made_decided reset.net)

  still_calm : (n : ℕ) (these : ℕ → Bool) → IsStill n these → IsCalm net n these
  still_calm n these (inl f) = follows_inputs n these f
  still_calm n these (inr (inl to)) = ends_reset n these to
  still_calm n these (inr (inr (p, place, e, (c, (reset, has, made))))) = reset_by_inputs n p place these reset (c, e) has made

  quiet_decided : (n : ℕ) (these : ℕ → Bool) → Decided (StartsQuietly net n these)
  quiet_decided n these = go (cases_Bool (these (get_or net.start n 0))) (resets_to_decided n these)
    where
      never : these (get_or net.start n 0) ≡ true → (ResetsTo net n these → ⊥) → StartsQuietly net n these → ⊥
      never t none (starts_without f) = cc
      never t none (resets_to_these to) = none to

      go : (these (get_or net.start n 0) ≡ true) ⊎ (these (get_or net.start n 0) ≡ false) → Decided (ResetsTo net n these) → Decided (StartsQuietly net n these)
      go (inr f) d = inl (starts_without f)
      go (inl t) (inl to) = inl (resets_to_these to)
      go (inl t) (inr none) = inr (never t none)

  -- what is calm without being still copies what is calm
  unless_still : (n : ℕ) (these : ℕ → Bool) → (IsStill n these → ⊥) → IsCalm net n these
      → (p : ℕ) × (place : ℕ) × (copy : Copy) × CopyOf n p place copy × (StartsQuietly net copy.net (λ value. these (copy.passed value)) × IsCalm net copy.net (λ value. these (copy.passed value)))
  unless_still n these not (follows_inputs m those f) = absurd (not (inl f))
  unless_still n these not (ends_reset m those to) = absurd (not (inr (inl to)))
  unless_still n these not (reset_by_inputs m p place those reset is has made) = absurd (not (inr (inr (p, place, is.1, (is.0, (reset, has, made))))))
  unless_still n these not (copies_calm m p place those copy is copies quiet calm) = (p, place, copy, (is, copies), (quiet, calm))

  -- a copy ends copies by following inputs alone
  end_still : (n : ℕ) (these : ℕ → Bool) → IsEnd n → IsCalm net n these → IsStill n these
  end_still n these (inl f) calm = inl f
  end_still n these (inr (p, place, e, (clock, (edge, (reset, k))))) calm = go (still_decided n these)
    where
      clocked : (q qp : ℕ) (copy : Copy) → CopyOf n q qp copy → ⊥
      clocked q qp copy (c, h) =
          let same = one_source n p place q qp e c.1 in
          let a : p ≡ q = cc in
          let d = subst (λ (x : ℕ). (process net x).kind ≡ Combinational) (sym a) c.0.1 in
          cc

      go : Decided (IsStill n these) → IsStill n these
      go (inl still) = still
      go (inr not) = let (q, qp, copy, is, more) = unless_still n these not calm in absurd (clocked q qp copy is)

  -- a walk to an end decides
  along : (many n : ℕ) (these : ℕ → Bool) → Walks Steps IsEnd many n → Decided (IsCalm net n these)
  along zero n these end' = go (still_decided n these)
    where
      go : Decided (IsStill n these) → Decided (IsCalm net n these)
      go (inl still) = inl (still_calm n these still)
      go (inr not) = inr (λ calm. not (end_still n these end' calm))
  along (suc many) n these (m, (p, place, copy, h, e), w) = go (still_decided n these) (quiet_decided copy.net (λ value. these (copy.passed value))) (along many copy.net (λ value. these (copy.passed value)) (subst (λ (x : ℕ). Walks Steps IsEnd many x) (sym e) w))
    where
      copied : (IsStill n these → ⊥) → IsCalm net n these → StartsQuietly net copy.net (λ value. these (copy.passed value)) × IsCalm net copy.net (λ value. these (copy.passed value))
      copied not calm =
          let (q, qp, other, is, both) = unless_still n these not calm in
          subst (λ (c : Copy). StartsQuietly net c.net (λ value. these (c.passed value)) × IsCalm net c.net (λ value. these (c.passed value))) (same_copy n q qp p place other copy is h) both

      go : Decided (IsStill n these) → Decided (StartsQuietly net copy.net (λ value. these (copy.passed value))) → Decided (IsCalm net copy.net (λ value. these (copy.passed value))) → Decided (IsCalm net n these)
      go (inl still) q c = inl (still_calm n these still)
      go (inr not) (inl q) (inl c) = inl (copies_calm n p place these copy h.0 h.1 q c)
      go (inr not) (inr q) c = inr (λ calm. q (copied not calm).0)
      go (inr not) (inl q) (inr c) = inr (λ calm. c (copied not calm).1)

  calm_walks : (n : ℕ) (these : ℕ → Bool) → IsCalm net n these → (many : ℕ) × Walks Steps IsEnd many n
  calm_walks n these (follows_inputs m those f) = (0, inl f)
  calm_walks n these (ends_reset m those (p, place, is, all)) = (0, inr (p, place, is.1, is.0))
  calm_walks n these (reset_by_inputs m p place those reset is has made) = (0, inr (p, place, is.1, is.0))
  calm_walks n these (copies_calm m p place those copy is copies quiet calm) =
      let (many, w) = calm_walks copy.net (λ value. these (copy.passed value)) calm in
      (suc many, (copy.net, (p, place, copy, (is, copies), refl), w))

  decided : (n : ℕ) (these : ℕ → Bool) → Decided (IsCalm net n these)
  decided n these = go (some_walk_or_none Steps IsEnd (length net.start) (steps IsEnd end_decided) n)
    where
      go : ((many : ℕ) × Walks Steps IsEnd many n) ⊎ ((many : ℕ) → Walks Steps IsEnd many n → ⊥) → Decided (IsCalm net n these)
      go (inl (many, w)) = along many n these w
      go (inr none) = inr (λ calm. let (many, w) = calm_walks n these calm in none many w)

pub calm_is_decided : CalmIsDecided
calm_is_decided net E n these = decided net E n these
