-- Levels by nets: without a loop of nets they exist, and they are a numbering.
use Rattle.std.proofs.Common.{◌≡◌, ◌≢◌, ℕ, zero, suc, ◌<◌, ◌≤◌, List, length, get_or, map, Option, Some, None, refl, sym, ap, ◌∙◌, arith, ◌⊎◌, inl, inr, subst, Contains, IsSome}
use Rattle.std.specs.List.{range_with_len}
use Rattle.std.proofs.lemmas.List.{get_or_past, length-map}
use Rattle.std.proofs.lemmas.List.FromFn.{length-map-range_with_len}
use Rattle.std.proofs.lemmas.List.Elements.{Contains-get_or}
use Rattle.std.proofs.lemmas.Bool.{cases_eq, cases_lt}
use Rattle.rtl_model.specs.basics.Chains.{Chain}
use Rattle.rtl_model.specs.simulation.Netlist.{HasPlace, HasReset, IsCombinational, IsDriven, Netlist, no_process, Process, process, kind_reset, Reset, reset_entry, reset_of, target}
use Rattle.rtl_model.specs.simulation.Elaborated.{IsElaborated, IsWired}
use Rattle.rtl_model.specs.simulation.Accepted.{HasNoNetLoop, IsInnerReset, IsResetBy, IsResetOf, LooksAt}
use Rattle.rtl_model.specs.simulation.NetLevels.{AreLevelsByNets, IsDerived, IsGreatestWoken, IsLevelByNets, IsNetLevel, MayActLater, RiseByLooks, ShowNetLevels}
use Rattle.rtl_model.specs.simulation.Machine.{entry_or}
use Rattle.rtl_model.specs.simulation.Laws.{LevelsByNetsExist, LevelsByNetsRise, NetLevelsAreShown}
use Rattle.rtl_model.proofs.basics.Lists.{get_or-map_within, get_or_default}
use Rattle.rtl_model.proofs.basics.Search.{search_below, both, either, is_contained}
use Rattle.rtl_model.proofs.basics.Options.{greatest_of, none_above, met}
use Rattle.rtl_model.proofs.basics.Chains.{IsFinite, chain_below, end_begins, no_circle, longest_chain, one_length, grows}
use Rattle.rtl_model.proofs.simulation.Order.{get_or-rows}
use Rattle.rtl_model.proofs.simulation.Decisions.{is_combinational}
use Rattle.rtl_model.proofs.simulation.Faultless.{Faultless, place_in_range}
use Rattle.rtl_model.proofs.simulation.Numbered.{CanAssign, Numbered}

-- ---- what can be decided

module _ (net : Netlist) where
  -- whether some driver has a property
  some_driver : (Q : ℕ → ℕ → Type 0) → ((p place : ℕ) → Q p place ⊎ (Q p place → ⊥))
      → ((p : ℕ) × (place : ℕ) × HasPlace net p place × Q p place) ⊎ ((p : ℕ) × (place : ℕ) × HasPlace net p place × Q p place → ⊥)
  some_driver Q d = go (search_below (λ p. (place : ℕ) × (place < length (process net p).drives) × Q p place) (λ p. of_process p (search_below (Q p) (d p) (length (process net p).drives))) (length net.processes))
    where
      of_process : (p : ℕ) → ((place : ℕ) × (place < length (process net p).drives) × Q p place) ⊎ ((place : ℕ) → place < length (process net p).drives → Q p place → ⊥)
          → ((place : ℕ) × (place < length (process net p).drives) × Q p place) ⊎ ((place : ℕ) × (place < length (process net p).drives) × Q p place → ⊥)
      of_process p (inl h) = inl h
      of_process p (inr none) = inr (λ (place, l, q). none place l q)

      go : ((p : ℕ) × (p < length net.processes) × ((place : ℕ) × (place < length (process net p).drives) × Q p place)) ⊎ ((p : ℕ) → p < length net.processes → (place : ℕ) × (place < length (process net p).drives) × Q p place → ⊥)
          → ((p : ℕ) × (place : ℕ) × HasPlace net p place × Q p place) ⊎ ((p : ℕ) × (place : ℕ) × HasPlace net p place × Q p place → ⊥)
      go (inl (p, l, (place, h, q))) = inl (p, place, h, q)
      go (inr none) = inr (λ (p, place, h, q). none p (place_in_range net p place h) (place, h, q))

  is_driven : (n : ℕ) → IsDriven net n ⊎ (IsDriven net n → ⊥)
  is_driven n = some_driver (λ p place. target net p place ≡ n) (λ p place. cases_eq (target net p place) n)

  is_reset : (p n : ℕ) → IsResetOf net p n ⊎ (IsResetOf net p n → ⊥)
  is_reset p n = go (reset_of net p) refl
    where
      go : (o : Option Reset) → reset_of net p ≡ o → IsResetOf net p n ⊎ (IsResetOf net p n → ⊥)
      go None e = inr (λ (reset, has, at). cc)
      go (Some r) e = at (cases_eq r.net n)
        where
          at : (r.net ≡ n) ⊎ (r.net ≡ n → ⊥) → IsResetOf net p n ⊎ (IsResetOf net p n → ⊥)
          at (inl same) = inl (r, e, same)
          at (inr other) = inr (λ (reset, has, is). let same : r.net ≡ n = cc in other same)

  is_inner : (p n : ℕ) → IsInnerReset net p n ⊎ (IsInnerReset net p n → ⊥)
  is_inner p n = both (is_reset p n) (is_driven n)

  has_entry : (p place : ℕ) → IsSome (reset_entry (reset_of net p) place) ⊎ (IsSome (reset_entry (reset_of net p) place) → ⊥)
  has_entry p place = go (reset_entry (reset_of net p) place)
    where
      go : (o : Option ℕ) → IsSome o ⊎ (IsSome o → ⊥)
      go None = inr (λ h. cc)
      go (Some v) = inl refl

  is_reset_by : (p place n : ℕ) → IsResetBy net p place n ⊎ (IsResetBy net p place n → ⊥)
  is_reset_by p place n = both (is_inner p n) (has_entry p place)

  has_inner : (p : ℕ) → ((n : ℕ) × IsInnerReset net p n) ⊎ ((n : ℕ) × IsInnerReset net p n → ⊥)
  has_inner p = go (reset_of net p) refl
    where
      go : (o : Option Reset) → reset_of net p ≡ o → ((n : ℕ) × IsInnerReset net p n) ⊎ ((n : ℕ) × IsInnerReset net p n → ⊥)
      go None e = inr (λ (n, ((reset, has, at), driven)). cc)
      go (Some r) e = at (is_driven r.net)
        where
          at : IsDriven net r.net ⊎ (IsDriven net r.net → ⊥) → ((n : ℕ) × IsInnerReset net p n) ⊎ ((n : ℕ) × IsInnerReset net p n → ⊥)
          at (inl driven) = inl (r.net, ((r, e, refl), driven))
          at (inr free) = inr (λ (n, ((reset, has, is), driven)). let same : n ≡ r.net = cc in free (subst (λ (m : ℕ). IsDriven net m) same driven))

  some_reset : (p place : ℕ) → ((n : ℕ) × IsResetBy net p place n) ⊎ ((n : ℕ) × IsResetBy net p place n → ⊥)
  some_reset p place = go (has_inner p) (has_entry p place)
    where
      go : ((n : ℕ) × IsInnerReset net p n) ⊎ ((n : ℕ) × IsInnerReset net p n → ⊥) → IsSome (reset_entry (reset_of net p) place) ⊎ (IsSome (reset_entry (reset_of net p) place) → ⊥) → ((n : ℕ) × IsResetBy net p place n) ⊎ ((n : ℕ) × IsResetBy net p place n → ⊥)
      go (inl (n, inner)) (inl some) = inl (n, (inner, some))
      go (inl inner) (inr none) = inr (λ (n, reset). none reset.1)
      go (inr none) e = inr (λ (n, reset). none (n, reset.0))

  abbrev Following : (n p place : ℕ) → Type 0
  Following n p place = (target net p place ≡ n) × (IsCombinational net p ⊎ ((m : ℕ) × IsResetBy net p place m))

  is_derived : (n : ℕ) → IsDerived net n ⊎ (IsDerived net n → ⊥)
  is_derived n = go (some_driver (Following n) (λ p place. both (cases_eq (target net p place) n) (either (is_combinational net p) (some_reset p place))))
    where
      go : ((p : ℕ) × (place : ℕ) × HasPlace net p place × Following n p place) ⊎ ((p : ℕ) × (place : ℕ) × HasPlace net p place × Following n p place → ⊥) → IsDerived net n ⊎ (IsDerived net n → ⊥)
      go (inl (p, place, h, (t, k))) = inl (p, place, h, t, k)
      go (inr none) = inr (λ (p, place, h, t, k). none (p, place, h, (t, k)))

  abbrev Looking : (n m p place : ℕ) → Type 0
  Looking n m p place = (target net p place ≡ n) × ((IsCombinational net p × Contains ((process net p).looks place) m) ⊎ IsResetBy net p place m)

  looks_at : (m n : ℕ) → LooksAt net n m ⊎ (LooksAt net n m → ⊥)
  looks_at m n = go (some_driver (Looking n m) (λ p place. both (cases_eq (target net p place) n) (either (both (is_combinational net p) (is_contained ((process net p).looks place) m)) (is_reset_by p place m))))
    where
      go : ((p : ℕ) × (place : ℕ) × HasPlace net p place × Looking n m p place) ⊎ ((p : ℕ) × (place : ℕ) × HasPlace net p place × Looking n m p place → ⊥) → LooksAt net n m ⊎ (LooksAt net n m → ⊥)
      go (inl (p, place, h, (t, looks))) = inl (record { driver = p; place = place; drives = h; net_is = t; looks = looks })
      go (inr none) = inr (λ l. none (l.driver, l.place, l.drives, (l.net_is, l.looks)))

  -- what looks at something follows it
  pub is_derived_by : (m n : ℕ) → LooksAt net n m → IsDerived net n
  is_derived_by m n l = (l.driver, l.place, l.drives, l.net_is, go l.looks)
    where
      go : (IsCombinational net l.driver × Contains ((process net l.driver).looks l.place) m) ⊎ IsResetBy net l.driver l.place m → IsCombinational net l.driver ⊎ ((m : ℕ) × IsResetBy net l.driver l.place m)
      go (inl (c, looks)) = inl c
      go (inr reset) = inr (m, reset)

  derived_below : IsWired net → (n : ℕ) → IsDerived net n → n < length net.start
  derived_below W n (p, place, h, t, k) = let l = W.targets_are_nets p place h in omega (arith, t)

  nets_finite : IsWired net → IsFinite (λ m n. LooksAt net n m) (IsDerived net) (length net.start)
  nets_finite W = record { begins = is_derived_by; below = derived_below W; begins_or_not = is_derived; precedes_or_not = looks_at }

  woken_by_driver : (p : ℕ) → ((n : ℕ) × Contains (process net p).wakes n × IsDriven net n) ⊎ ((n : ℕ) × Contains (process net p).wakes n × IsDriven net n → ⊥)
  woken_by_driver p = go (search_below (λ k. IsDriven net (get_or (process net p).wakes k 0)) (λ k. is_driven (get_or (process net p).wakes k 0)) (length (process net p).wakes))
    where
      go : ((k : ℕ) × (k < length (process net p).wakes) × IsDriven net (get_or (process net p).wakes k 0)) ⊎ ((k : ℕ) → k < length (process net p).wakes → IsDriven net (get_or (process net p).wakes k 0) → ⊥)
          → ((n : ℕ) × Contains (process net p).wakes n × IsDriven net n) ⊎ ((n : ℕ) × Contains (process net p).wakes n × IsDriven net n → ⊥)
      go (inl (k, l, driven)) = inl (get_or (process net p).wakes k 0, Contains-get_or (process net p).wakes k 0 l, driven)
      go (inr none) = inr (λ (n, (k, l, e), driven). none k l (subst (λ (m : ℕ). IsDriven net m) (sym e ∙ get_or_default (process net p).wakes k n 0 l) driven))

  has_reset : (p : ℕ) → ((reset : Reset) × HasReset net p reset) ⊎ ((reset : Reset) × HasReset net p reset → ⊥)
  has_reset p = go (reset_of net p) refl
    where
      go : (o : Option Reset) → reset_of net p ≡ o → ((reset : Reset) × HasReset net p reset) ⊎ ((reset : Reset) × HasReset net p reset → ⊥)
      go None e = inr (λ (reset, has). cc)
      go (Some r) e = inl (r, e)

  may_act_later : (p : ℕ) → MayActLater net p ⊎ (MayActLater net p → ⊥)
  may_act_later p = either (is_combinational net p) (both (has_reset p) (woken_by_driver p))

-- ---- levels exist

module _ (net : Netlist) (W : IsWired net) (none : HasNoNetLoop net) where
  net_level : (n : ℕ) → (level : ℕ) × IsNetLevel net n level
  net_level = longest_chain (λ m n. LooksAt net n m) (IsDerived net) (length net.start) (nets_finite net W) none

  -- the levels of the nets that a process is sensitive to
  woken_levels : (p : ℕ) → List (Option ℕ)
  woken_levels p = map (λ (n : ℕ). Some (net_level n).0) (process net p).wakes

  woken_at : (p k n : ℕ) → k < length (process net p).wakes → get_or (process net p).wakes k n ≡ n → get_or (woken_levels p) k None ≡ Some (net_level n).0
  unfolding woken_levels
  woken_at p k n l e = get_or-map_within (λ (m : ℕ). Some (net_level m).0) (process net p).wakes k n None l ∙ ap (λ (m : ℕ). Some (net_level m).0) e

  greatest_woken : (p : ℕ) → IsGreatestWoken net p (greatest_of (woken_levels p))
  unfolding woken_levels
  greatest_woken p = record {
    none_above = λ n level (k, l, e) is.
        let same = one_length (λ m n. LooksAt net n m) (IsDerived net) n (net_level n).0 level (net_level n).1 is in
        let le = none_above (woken_levels p) k (net_level n).0 (woken_at p k n l e) in
        omega arith;
    met = λ h. let (k, e) = met (woken_levels p) h in at k e (cases_lt k (length (process net p).wakes));
  }
    where
      at : (k : ℕ) → get_or (woken_levels p) k None ≡ Some (greatest_of (woken_levels p)) → (k < length (process net p).wakes) ⊎ (length (process net p).wakes ≤ k)
          → (n : ℕ) × Contains (process net p).wakes n × IsNetLevel net n (greatest_of (woken_levels p))
      at k e (inl l) =
          let n = get_or (process net p).wakes k 0 in
          let f = woken_at p k n l (sym (get_or_default (process net p).wakes k 0 n l)) in
          let same : (net_level n).0 ≡ greatest_of (woken_levels p) = cc in
          (n, Contains-get_or (process net p).wakes k 0 l, subst (λ (b : ℕ). IsNetLevel net n b) same (net_level n).1)
      at k e (inr l) = let f = get_or_past (woken_levels p) k None (rw length-map l) in cc

  abbrev option_by_nets : (p : ℕ) → MayActLater net p ⊎ (MayActLater net p → ⊥) → Option ℕ
  option_by_nets p (inl h) = Some (suc (greatest_of (woken_levels p)))
  option_by_nets p (inr never) = None

  options_by_nets : List (Option ℕ)
  options_by_nets = map (λ (p : ℕ). option_by_nets p (may_act_later net p)) (range_with_len 0 (length net.processes))

  numbers_by_nets : List ℕ
  numbers_by_nets = map (λ (n : ℕ). (net_level n).0) (range_with_len 0 (length net.start))

  are_levels_by_nets : AreLevelsByNets net options_by_nets numbers_by_nets (greatest_of options_by_nets)
  unfolding options_by_nets numbers_by_nets
  are_levels_by_nets = record {
    each_net = length-map-range_with_len _ 0 (length net.start);
    of_nets = λ n l. subst (λ (b : ℕ). IsNetLevel net n b) (sym (get_or-rows (λ (m : ℕ). (net_level m).0) (length net.start) n 0 l)) (net_level n).1;
    each_process = length-map-range_with_len _ 0 (length net.processes);
    of_processes = λ p l. subst (λ (o : Option ℕ). IsLevelByNets net p o) (sym (get_or-rows (λ (q : ℕ). option_by_nets q (may_act_later net q)) (length net.processes) p None l)) (is p (may_act_later net p));
    none_above = none_above options_by_nets;
    met = met options_by_nets;
  }
    where
      is : (p : ℕ) → (d : MayActLater net p ⊎ (MayActLater net p → ⊥)) → IsLevelByNets net p (option_by_nets p d)
      is p (inl h) = (h, greatest_woken p)
      is p (inr never) = never

pub levels_by_nets_exist : LevelsByNetsExist
levels_by_nets_exist net W none = (options_by_nets net W none, numbers_by_nets net W none, greatest_of (options_by_nets net W none), are_levels_by_nets net W none)

-- ---- local facts show them

module _ (net : Netlist) (nets : List ℕ) (S : ShowNetLevels net nets) where
  chain_of : (below n : ℕ) → get_or nets n 0 ≡ suc below → Chain (λ m n. LooksAt net n m) (IsDerived net) n (suc below)
  chain_of zero n e = S.derived n (λ z. omega arith)
  chain_of (suc below) n e = let (m, l, f) = S.from_below n below e in (m, chain_of below m f, l)

  shown_level : (n : ℕ) → IsNetLevel net n (get_or nets n 0)
  shown_level n = record {
    reached = λ h. reached (get_or nets n 0) refl h;
    longest = λ many c. chain_below (λ m n. LooksAt net n m) (IsDerived net) (λ k. get_or nets k 0) S.rise.along S.rise.from_one many n c;
  }
    where
      reached : (level : ℕ) → get_or nets n 0 ≡ level → level ≢ 0 → Chain (λ m n. LooksAt net n m) (IsDerived net) n level
      reached zero e h = absurd (h refl)
      reached (suc below) e h = chain_of below n e

module _ (net : Netlist) (nets : List ℕ) (is : (n : ℕ) → IsNetLevel net n (get_or nets n 0)) where
  derived_if : (n level : ℕ) → IsNetLevel net n level → level ≢ 0 → IsDerived net n
  derived_if n level l h = ends level (l.reached h)
    where
      ends : (many : ℕ) → Chain (λ m n. LooksAt net n m) (IsDerived net) n many → IsDerived net n
      ends zero c = absurd c
      ends (suc zero) c = c
      ends (suc (suc many)) (m, c, l) = is_derived_by net m n l

  -- the last look of a longest chain is at a net of the level below
  last_look : (n below : ℕ) → get_or nets n 0 ≡ suc (suc below) → (m : ℕ) × LooksAt net n m × (get_or nets m 0 ≡ suc below)
  last_look n below e = go (subst (λ (level : ℕ). IsNetLevel net n level) e (is n))
    where
      go : IsNetLevel net n (suc (suc below)) → (m : ℕ) × LooksAt net n m × (get_or nets m 0 ≡ suc below)
      go level =
          let (m, c, l) = level.reached (λ z. omega arith) in
          let above = (is m).longest (suc below) c in
          let rises = grows (λ m n. LooksAt net n m) (IsDerived net) (is_derived_by net) m n (get_or nets m 0) (suc (suc below)) l (is m) level in
          (m, l, omega arith)

  levels_show : ShowNetLevels net nets
  levels_show = record {
    rise = record {
      from_one = λ n d. (is n).longest 1 d;
      along = λ m n l. grows (λ m n. LooksAt net n m) (IsDerived net) (is_derived_by net) m n (get_or nets m 0) (get_or nets n 0) l (is m) (is n);
    };
    derived = λ n h. derived_if n (get_or nets n 0) (is n) h;
    from_below = last_look;
  }

pub net_levels_are_shown : NetLevelsAreShown
net_levels_are_shown net nets = ((levels_show net nets, shown_level net nets), λ S. no_circle (λ m n. LooksAt net n m) (IsDerived net) (λ k. get_or nets k 0) S.rise.along)

-- ---- they are a numbering

module _ (net : Netlist) (W : IsWired net) (levels : List (Option ℕ)) (nets : List ℕ) (greatest : ℕ) (V : AreLevelsByNets net levels nets greatest) where
  level_of : (n : ℕ) → IsNetLevel net n (get_or nets n 0)
  level_of n = go (cases_lt n (length net.start))
    where
      go : (n < length net.start) ⊎ (length net.start ≤ n) → IsNetLevel net n (get_or nets n 0)
      go (inl l) = V.of_nets n l
      go (inr l) =
          let e = V.each_net in
          let none : get_or nets n 0 ≡ 0 = get_or_past nets n 0 (omega arith) in
          rw none (record { reached = λ z. absurd (z refl); longest = λ many c. longest many c l })
        where
          longest : (many : ℕ) → Chain (λ m n. LooksAt net n m) (IsDerived net) n many → length net.start ≤ n → many ≤ 0
          longest many c l = let k = derived_below net W n (end_begins (λ m n. LooksAt net n m) (IsDerived net) (length net.start) (nets_finite net W) many n c) in absurd (omega arith)

pub levels_by_nets_rise : LevelsByNetsRise
levels_by_nets_rise net levels nets greatest W V = levels_show net nets (level_of net W levels nets greatest V)

module _ (net : Netlist) (E : IsElaborated net) (A : Faultless net) (levels : List (Option ℕ)) (nets : List ℕ) (greatest : ℕ) (V : AreLevelsByNets net levels nets greatest) where
  abbrev number : ℕ → ℕ
  number n = get_or nets n 0

  is_level : (n : ℕ) → IsNetLevel net n (number n)
  is_level = level_of net E.wiring levels nets greatest V

  rise : RiseByLooks net nets
  rise = (levels_show net nets is_level).rise

  abbrev process_level : ℕ → ℕ
  process_level p = entry_or (get_or levels p None) 0

  process_within : (p : ℕ) → process_level p ≤ greatest
  process_within p = go (get_or levels p None) refl
    where
      go : (o : Option ℕ) → get_or levels p None ≡ o → entry_or o 0 ≤ greatest
      go None e = omega arith
      go (Some level) e = V.none_above p level e

  in_range : (p : ℕ) → MayActLater net p → p < length net.processes
  in_range p (inl c) = c.0
  in_range p (inr ((reset, has), woken)) = go (cases_lt p (length net.processes))
    where
      go : (p < length net.processes) ⊎ (length net.processes ≤ p) → p < length net.processes
      go (inl l) = l
      go (inr l) = let e : kind_reset (process net p).kind ≡ None = ap (λ (x : Process). kind_reset x.kind) (get_or_past net.processes p no_process l) in absurd cc

  -- a process that may assign later has a level above those of the nets that it is sensitive to
  above_zero : (p : ℕ) → MayActLater net p → 1 ≤ process_level p
  above_zero p h = go (get_or levels p None) (V.of_processes p (in_range p h))
    where
      go : (o : Option ℕ) → IsLevelByNets net p o → 1 ≤ entry_or o 0
      go None never = absurd (never h)
      go (Some zero) is = absurd is
      go (Some (suc below)) is = omega arith

  above_woken : (p n : ℕ) → MayActLater net p → Contains (process net p).wakes n → number n < process_level p
  above_woken p n h w = go (get_or levels p None) (V.of_processes p (in_range p h))
    where
      go : (o : Option ℕ) → IsLevelByNets net p o → number n < entry_or o 0
      go None never = absurd (never h)
      go (Some zero) is = absurd is
      go (Some (suc below)) is = let l = is.1.none_above n (number n) w (is_level n) in omega arith

  acts_later : (p n : ℕ) → CanAssign net p → IsDriven net n → Contains (process net p).wakes n → MayActLater net p
  acts_later p n (inl c) driven w = inl c
  acts_later p n (inr has) driven w = inr (has, (n, w, driven))

  -- a net that follows others is no higher than the process that drives it
  net_within : (n : ℕ) → number n ≤ greatest
  net_within n = go (number n) (is_level n)
    where
      inner : (p m : ℕ) → IsInnerReset net p m → MayActLater net p × Contains (process net p).wakes m
      inner p m ((reset, has, at), driven) = let w = subst (λ (k : ℕ). Contains (process net p).wakes k) at (A.reset_wakes p reset has) in (inr ((reset, has), (m, w, driven)), w)

      under : (p m a : ℕ) → MayActLater net p → Contains (process net p).wakes m → a ≤ number m → suc a ≤ greatest
      under p m a h w l = let k = above_woken p m h w in let b = process_within p in omega arith

      looking : (m a : ℕ) → LooksAt net n m → a ≤ number m → suc a ≤ greatest
      looking m a l le = by l.looks
        where
          by : (IsCombinational net l.driver × Contains ((process net l.driver).looks l.place) m) ⊎ IsResetBy net l.driver l.place m → suc a ≤ greatest
          by (inl (c, looks)) = under l.driver m a (inl c) (A.reads_wake l.driver m c (E.bodies.looks_are_read l.driver l.place m looks)) le
          by (inr reset) = let (h, w) = inner l.driver m reset.0 in under l.driver m a h w le

      derived : IsDerived net n → 1 ≤ greatest
      derived (p, place, h, t, inl c) = let k = above_zero p (inl c) in let b = process_within p in omega arith
      derived (p, place, h, t, inr (m, reset)) = let (later, w) = inner p m reset.0 in under p m 0 later w (omega arith)

      go : (a : ℕ) → IsNetLevel net n a → a ≤ greatest
      go zero is = omega arith
      go (suc zero) is = derived (is.reached (λ z. omega arith))
      go (suc (suc a)) is = let (m, c, l) = is.reached (λ z. omega arith) in looking m (suc a) l ((is_level m).longest (suc a) c)

  pub by_nets : Numbered net
  by_nets = record {
    elaborated = E;
    faultless = A;
    of_net = number;
    from_one = λ p place c h. rise.from_one (target net p place) (p, place, h, refl, inl c);
    rises = λ p place n c h looks. rise.along n (target net p place) (record { driver = p; place = place; drives = h; net_is = refl; looks = inl (c, looks) });
    resets_rise = λ p place n reset h. rise.along n (target net p place) (record { driver = p; place = place; drives = h; net_is = refl; looks = inr reset });
    of_process = process_level;
    process_from_one = λ p c. above_zero p (inl c);
    above = λ p n can driven w. above_woken p n (acts_later p n can driven w) w;
    greatest = greatest;
    net_within = net_within;
    process_within = process_within;
  }

  pub greatest_by_nets : by_nets.greatest ≡ greatest
  unfolding by_nets
  greatest_by_nets = refl
