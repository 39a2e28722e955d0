-- Each net with sources has the resolution of their values; inputs have the stimulus's; changes are made.
use Rattle.std.proofs.Common.{◌≡◌, ℕ, zero, suc, ◌<◌, ◌≤◌, Bool, true, false, List, [], ◌∷◌, ◌++◌, length, get_or, map, slice_index, slice_set, Option, None}
use Rattle.std.proofs.Common.{refl, sym, ap, ◌∙◌, subst, arith, ◌⊎◌, inl, inr, Contains, ◌==◌, if◌then◌else◌}
use Rattle.std.specs.List.{list_any, range_with_len}
use Rattle.std.proofs.lemmas.List.{get_or-set_same, get_or-set_other, get_or_past, length-set}
use Rattle.std.proofs.lemmas.Bool.{cases_lt, cond-true, cond-false, false_from_ne_true}
use Rattle.rtl_model.specs.simulation.Netlist.{Netlist, Source, Driver, Idle, sources_of, IsInput}
use Rattle.rtl_model.specs.simulation.Cycle.{State, start_state, after_update, all_driver_values, driver_values, source_value, net_value, with_inputs, with_changes, resumed_processes}
use Rattle.rtl_model.specs.simulation.Moments.{Begun, HasDeltas}
use Rattle.rtl_model.specs.simulation.Elaborated.{IsWired}
use Rattle.rtl_model.specs.simulation.Machine.{entry_or}
use Rattle.rtl_model.specs.simulation.Laws.{IsConsistent, EachStaysConsistent, EachTakesInputsAlone, EachInputHolds, EachChangeIsMade}
use Rattle.rtl_model.proofs.basics.Lists.{Contains-none, Contains-first}
use Rattle.rtl_model.proofs.simulation.Solution.{get_or-table}
use Rattle.rtl_model.proofs.simulation.Rows.{driven_all_at, length-driven, driven_at}
use Rattle.rtl_model.proofs.simulation.Order.{finished, HasRun-finished}
use Rattle.rtl_model.proofs.simulation.Deltas.{after, HasDeltas-after}

map_same : (f g : Source → ℕ) (xs : List Source) → ((x : Source) → Contains xs x → f x ≡ g x) → map f xs ≡ map g xs
map_same f g [] h = refl
map_same f g (x ∷ xs) h = λ i. h x (Contains-first x xs) i ∷ map_same f g xs (λ y (k, l, at). h y (suc k, omega arith, at)) i

module _ (net : Netlist) (wired : IsWired net) where
  -- a net with sources is no input
  not_input : (n : ℕ) (source : Source) → Contains (sources_of net n) source → list_any (λ m. m == n) net.inputs ≡ false
  not_input n source c =
      false_from_ne_true _ (λ (is : IsInput net n). Contains-none source (subst (λ (xs : List Source). Contains xs source) (wired.inputs_have_no_source n is) c))

  not_given : (inputs : ℕ → ℕ) (old : List ℕ) (n : ℕ) (source : Source) → n < length net.start → Contains (sources_of net n) source → get_or (with_inputs net inputs old) n 0 ≡ get_or old n 0
  not_given inputs old n source l c =
      get_or-table (length net.start) (λ m. if list_any (λ k. k == m) net.inputs then inputs m else get_or old m 0) n l ∙ cond-false _ _ _ (not_input n source c)

  updated_at : (s : State) (n : ℕ) → n < length net.start → get_or (after_update net s).now n 0 ≡ net_value net (all_driver_values s.pending s.drivers) (sources_of net n) (get_or s.now n 0)
  updated_at s n l = get_or-table (length net.start) (λ m. net_value net (all_driver_values s.pending s.drivers) (sources_of net m) (get_or s.now m 0)) n l

  resolves : (drivers : List (List ℕ)) (old : ℕ) (xs : List Source) (source : Source) → Contains xs source → net_value net drivers xs old ≡ net.resolve (map (source_value drivers) xs)
  resolves drivers old [] source c = absurd (Contains-none source c)
  resolves drivers old (x ∷ xs) source c = refl

  -- a driver without a transaction keeps its value
  same_driver : (s : State) (p place : ℕ) → get_or (get_or s.pending p []) place None ≡ None → get_or (get_or (all_driver_values s.pending s.drivers) p []) place 0 ≡ get_or (get_or s.drivers p []) place 0
  same_driver s p place e =
      ap (λ (row : List ℕ). get_or row place 0) (driven_all_at s.pending s.drivers p) ∙ go (cases_lt place (length (get_or s.drivers p [])))
    where
      go : (place < length (get_or s.drivers p [])) ⊎ (length (get_or s.drivers p []) ≤ place) → get_or (driver_values (get_or s.pending p []) (get_or s.drivers p [])) place 0 ≡ get_or (get_or s.drivers p []) place 0
      go (inl l) = driven_at (get_or s.pending p []) (get_or s.drivers p []) place l ∙ ap (λ (o : Option ℕ). entry_or o (get_or (get_or s.drivers p []) place 0)) e
      go (inr l) =
          get_or_past (driver_values (get_or s.pending p []) (get_or s.drivers p [])) place 0 (omega (arith, length-driven (get_or s.pending p []) (get_or s.drivers p [])))
          ∙ sym (get_or_past (get_or s.drivers p []) place 0 l)

  keeps : (s : State) (n : ℕ) → IsConsistent net s → n < length net.start
      → ((p place : ℕ) → Contains (sources_of net n) (Driver p place) → get_or (get_or s.pending p []) place None ≡ None)
      → get_or (after_update net s).now n 0 ≡ get_or s.now n 0
  keeps s n consistent l none = updated_at s n l ∙ go (sources_of net n) refl
    where
      same : (x : Source) → Contains (sources_of net n) x → source_value (all_driver_values s.pending s.drivers) x ≡ source_value s.drivers x
      same (Driver p place) c = same_driver s p place (none p place c)
      same (Idle v) c = refl

      go : (xs : List Source) → sources_of net n ≡ xs → net_value net (all_driver_values s.pending s.drivers) xs (get_or s.now n 0) ≡ get_or s.now n 0
      go [] e = refl
      go (x ∷ xs) e =
          let has = subst (λ (ys : List Source). Contains ys x) (sym e) (Contains-first x xs) in
          ap net.resolve (ap (map (source_value (all_driver_values s.pending s.drivers))) (sym e) ∙ map_same _ _ (sources_of net n) same)
          ∙ sym (consistent n x l has)

pub each_stays_consistent : EachStaysConsistent
each_stays_consistent net wired = record {
  starts = λ inputs n source l c. not_given net wired inputs net.start n source l c ∙ wired.nets_start n source c;
  updates = λ s n source l c. updated_at net wired s n l ∙ resolves net wired (all_driver_values s.pending s.drivers) (get_or s.now n 0) (sources_of net n) source c;
  gives = λ inputs s consistent n source l c. not_given net wired inputs s.now n source l c ∙ consistent n source l c;
  runs = λ p s consistent n source l c. consistent n source l c;
  keeps = keeps net wired;
}

-- ---- inputs

pub same_inputs : (net : Netlist) (inputs other : ℕ → ℕ) (old : List ℕ) → ((n : ℕ) → IsInput net n → inputs n ≡ other n) → with_inputs net inputs old ≡ with_inputs net other old
same_inputs net inputs other old h = λ i. map (λ n. at n (list_any (λ m. m == n) net.inputs) (λ e. h n e) i) (range_with_len 0 (length net.start))
  where
    at : (n : ℕ) (b : Bool) → (b ≡ true → inputs n ≡ other n) → (if b then inputs n else slice_index old n) ≡ (if b then other n else slice_index old n)
    at n true e = e refl
    at n false e = refl

pub takes_inputs_alone : EachTakesInputsAlone
takes_inputs_alone net inputs other h = record {
  starts = λ i. of_first (same_inputs net inputs other net.start h i);
  gives = λ s i. of_now s (same_inputs net inputs other s.now h i);
}
  where
    of_first : List ℕ → State
    of_first first = record (start_state net inputs) { before = first; now = first }

    of_now : State → List ℕ → State
    of_now s now = record { before = s.now; now = now; drivers = s.drivers; pending = s.pending; waiting = resumed_processes net s.now now }

pub given_at : (net : Netlist) → IsWired net → (inputs : ℕ → ℕ) (old : List ℕ) (n : ℕ) → IsInput net n → get_or (with_inputs net inputs old) n 0 ≡ inputs n
given_at net wired inputs old n is =
    get_or-table (length net.start) (λ m. if list_any (λ k. k == m) net.inputs then inputs m else get_or old m 0) n (wired.inputs_are_nets n is) ∙ cond-true _ _ _ is

-- delta cycles leave inputs as they are
after_at : (net : Netlist) → IsWired net → (k : ℕ) (s : State) (n : ℕ) → IsInput net n → get_or (after net k s).now n 0 ≡ get_or s.now n 0
after_at net wired zero s n is = refl
after_at net wired (suc k) s n is =
    after_at net wired k (finished net (after_update net s)) n is
    ∙ updated_at net wired s n (wired.inputs_are_nets n is)
    ∙ ap (λ (xs : List Source). net_value net (all_driver_values s.pending s.drivers) xs (get_or s.now n 0)) (wired.inputs_have_no_source n is)

pub each_input_holds : EachInputHolds
each_input_holds net wired stimulus m n is = record { begun = begun m; settled = λ k t (s, b, (settles, deltas)). settled k t s deltas ∙ begun m s b }
  where
    begun : (m : ℕ) (s : State) → Begun net stimulus m s → get_or s.now n 0 ≡ stimulus m n
    begun zero s run = ap (λ (u : State). get_or u.now n 0) (HasRun-finished net _ s run) ∙ given_at net wired (stimulus 0) net.start n is
    begun (suc m) s (earlier, k, quiet, b, to, run) = ap (λ (u : State). get_or u.now n 0) (HasRun-finished net _ s run) ∙ given_at net wired (stimulus (suc m)) quiet.now n is

    settled : (k : ℕ) (t s : State) → HasDeltas net k s t → get_or t.now n 0 ≡ get_or s.now n 0
    settled k t s deltas = ap (λ (u : State). get_or u.now n 0) (HasDeltas-after net k s t deltas) ∙ after_at net wired k s n is

-- ---- changes

changed_kept : (changes : List (ℕ × ℕ)) (old : List ℕ) (n : ℕ) → ((value : ℕ) → Contains changes (n, value) → ⊥) → with_changes changes old n ≡ slice_index old n
changed_kept [] old n h = refl
changed_kept ((m, v) ∷ changes) old n h =
    changed_kept changes (slice_set old m v) n (λ value (k, l, at). h value (suc k, omega arith, at)) ∙ get_or-set_other old m n v 0 other
  where
    other : n ≡ m → ⊥
    other e = h v (0, omega arith, λ i. (sym e i, v))

changed_last : (changes : List (ℕ × ℕ)) (old : List ℕ) (n value : ℕ) → n < length old → with_changes (changes ++ ((n, value) ∷ [])) old n ≡ value
changed_last [] old n value l = get_or-set_same old n value 0 l
changed_last ((m, v) ∷ changes) old n value l = changed_last changes (slice_set old m v) n value (omega (arith, length-set old m v))

changed_others : (changes : List (ℕ × ℕ)) (old : List ℕ) (n m value : ℕ) → (n ≡ m → ⊥) → with_changes (changes ++ ((m, value) ∷ [])) old n ≡ with_changes changes old n
changed_others [] old n m value h = get_or-set_other old m n value 0 h
changed_others ((j, v) ∷ changes) old n m value h = changed_others changes (slice_set old j v) n m value h

pub each_change_is_made : EachChangeIsMade
each_change_is_made changes old = record { kept = changed_kept changes old; last = changed_last changes old; others = changed_others changes old }
