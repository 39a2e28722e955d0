-- Levels of processes, and the numbering that they give: a net's number is the level of the process that drives it. And
-- the numbering of any netlist that is accepted.
use Rattle.std.proofs.Common.{◌≡◌, ℕ, zero, suc, ◌+◌, ◌<◌, ◌≤◌, true, false, cond, List, [], ◌∷◌, length, get_or, Option, Some, None, refl, sym, ap, arith, ◌⊎◌, inl, inr, subst, Contains, ◌&&◌}
use Rattle.std.specs.List.{list_any}
use Rattle.std.specs.Option.{is_some}
use Rattle.std.proofs.lemmas.List.{get_or_past}
use Rattle.std.proofs.lemmas.List.Elements.{Contains-get_or}
use Rattle.std.proofs.lemmas.Bool.{cases_Bool, cases_lt, and_from, cond-true}
use Rattle.rtl_model.proofs.basics.Lists.{Contains-first, any_true, only_source}
use Rattle.rtl_model.proofs.basics.Chains.{no_circle}
use Rattle.rtl_model.specs.simulation.Netlist.{Clocked, Combinational, Driver, Edge, HasPlace, HasReset, Idle, IsClockedBy, IsCombinational, IsInput, ProcessKind, kind_reset, Mixed, Netlist, no_process, Process, process, Reset, Source, sources_of, target, IsDriven}
use Rattle.rtl_model.specs.simulation.Elaborated.{IsElaborated}
use Rattle.rtl_model.specs.simulation.Calm.{follows_inputs}
use Rattle.rtl_model.specs.simulation.Accepted.{ClockAsData, ClockNotInput, EdgeNotSensitive, Feeds, HasNoLoop, HasNoNetLoop, IsAccepted, IsByNets, IsInnerReset, Latch, LooksAt, Loop, MissingSensitivity, MixedProcess, NetLoop, StoredVariable, TwoDrivers}
use Rattle.rtl_model.specs.simulation.Levels.{AreLevels, ChainTo, has_late_reset, IsLevel, is_driver}
use Rattle.rtl_model.specs.simulation.Machine.{entry_or}
use Rattle.rtl_model.specs.simulation.NetLevels.{IsDerived}
use Rattle.rtl_model.proofs.simulation.Faultless.{Faultless, faultless, kinds, undriven_input}
use Rattle.rtl_model.proofs.simulation.Loops.{levels_exist}
use Rattle.rtl_model.proofs.simulation.Numbered.{CanAssign, Numbered, rises_along}
use Rattle.rtl_model.proofs.simulation.NetLevels.{by_nets, levels_by_nets_exist}

pub same_level : (net : Netlist) (p a b : ℕ) → IsLevel net p a → IsLevel net p b → a ≡ b
same_level net p a b x y = let l = x.longest b y.reached in let k = y.longest a x.reached in omega arith

-- the level of a combinational process, 0 of a clocked one
abbrev pub level_or : List (Option ℕ) → ℕ → ℕ
level_or levels p = entry_or (get_or levels p None) 0

-- how many cycles later a process with a reset may run than the levels say
abbrev pub extra : Netlist → ℕ
extra net = cond (has_late_reset net) 1 0

-- a process with a reset that is sensitive to a driven net
late_reset : (net : Netlist) (E : IsElaborated net) (p n : ℕ) (reset : Reset) → HasReset net p reset → IsDriven net n → Contains (process net p).wakes n → has_late_reset net ≡ true
late_reset net E p n reset has (q, place, h, t) w =
    any_true (λ (x : Process). is_some (kind_reset x.kind) && list_any (λ m. list_any is_driver (sources_of net m)) x.wakes) net.processes (process net p) at (and_from _ _ (ap is_some has) drives)
  where
    at : Contains net.processes (process net p)
    at = go (cases_lt p (length net.processes))
      where
        go : (p < length net.processes) ⊎ (length net.processes ≤ p) → Contains net.processes (process net p)
        go (inl l) = Contains-get_or net.processes p no_process l
        go (inr l) = let e : kind_reset (process net p).kind ≡ None = ap (λ (x : Process). kind_reset x.kind) (get_or_past net.processes p no_process l) in absurd cc

    drives : list_any (λ m. list_any is_driver (sources_of net m)) (process net p).wakes ≡ true
    drives = any_true (λ m. list_any is_driver (sources_of net m)) (process net p).wakes n w
        (any_true is_driver (sources_of net n) (Driver q place) (subst (λ (m : ℕ). Contains (sources_of net m) (Driver q place)) t (E.wiring.drivers_are_sources q place h)) refl)

-- where the reading isn't wide, a reset is an input
pub narrow_reset : (net : Netlist) → IsElaborated net → net.wide ≡ false → (p : ℕ) (reset : Reset) → HasReset net p reset → IsInput net reset.net
narrow_reset net E narrow p reset has = go (E.bodies.resets_are_narrow p reset has)
  where
    go : (IsInput net reset.net × (reset.gates ≡ true)) ⊎ (net.wide ≡ true) → IsInput net reset.net
    go (inl (input, gates)) = input
    go (inr wide) = absurd cc

-- what is judged by processes has no reset made inside
pub outer_resets : (net : Netlist) → IsElaborated net → (IsByNets net → ⊥) → (p n : ℕ) → IsInnerReset net p n → ⊥
outer_resets net E by_processes p n inner = go (cases_Bool net.wide) inner
  where
    go : (net.wide ≡ true) ⊎ (net.wide ≡ false) → IsInnerReset net p n → ⊥
    go (inl wide) inner = by_processes (wide, inr (p, n, inner))
    go (inr narrow) ((reset, has, at), driven) = undriven_input net E.wiring n (subst (λ (m : ℕ). IsInput net m) at (narrow_reset net E narrow p reset has)) driven

module _ (net : Netlist) (E : IsElaborated net) (A : Faultless net) (outer : (p n : ℕ) → IsInnerReset net p n → ⊥) (levels : List (Option ℕ)) (greatest : ℕ) (V : AreLevels net levels greatest) where
  level_of : (p : ℕ) → IsCombinational net p → IsLevel net p (level_or levels p) × (level_or levels p ≤ greatest)
  level_of p c =
      let (level, e, is) = V.combinational p c in
      let le = V.none_above p level e in
      let k : level_or levels p ≡ level = ap (λ (o : Option ℕ). entry_or o 0) e in
      (rw k is, rw k le)

  level_of_clocked : (p clock : ℕ) (edge : Edge) → IsClockedBy net p clock edge → level_or levels p ≡ 0
  level_of_clocked p clock edge c = ap (λ (o : Option ℕ). entry_or o 0) (V.clocked p clock edge c)

  level_above_none : (p : ℕ) → IsCombinational net p → 1 ≤ level_or levels p
  level_above_none p c = (level_of p c).0.longest 1 c

  pub level_rises : (p q : ℕ) → Feeds net p q → level_or levels p < level_or levels q
  level_rises p q f = go (level_or levels p) refl
    where
      go : (n : ℕ) → level_or levels p ≡ n → level_or levels p < level_or levels q
      go zero e = let h = level_above_none p f.feeder in absurd (omega arith)
      go (suc n) e =
          let chain : ChainTo net p (suc n) = rw e at (level_of p f.feeder).0.reached in
          let h = (level_of q f.fed).0.longest (suc (suc n)) (p, chain, f) in
          rw e h

  level_within : (p : ℕ) → level_or levels p ≤ greatest
  level_within p = go (get_or levels p None) refl
    where
      go : (o : Option ℕ) → get_or levels p None ≡ o → entry_or o 0 ≤ greatest
      go None e = omega arith
      go (Some level) e = V.none_above p level e

  abbrev number_by : List Source → ℕ
  number_by (Driver p place ∷ more) = level_or levels p
  number_by (Idle v ∷ more) = 0
  number_by [] = 0

  abbrev net_number : ℕ → ℕ
  net_number n = number_by (sources_of net n)

  number_of_target : (p place : ℕ) → HasPlace net p place → net_number (target net p place) ≡ level_or levels p
  number_of_target p place h = ap number_by (only_source _ _ (A.one_source (target net p place)) (E.wiring.drivers_are_sources p place h))

  -- a net's number is below what is above the levels of the combinational processes that drive it
  number_below : (n b : ℕ) → 1 ≤ b → ((q place : ℕ) → HasPlace net q place → target net q place ≡ n → IsCombinational net q → level_or levels q < b) → net_number n < b
  number_below n b one above = go (sources_of net n) refl
    where
      of_kind : (q place : ℕ) → HasPlace net q place → target net q place ≡ n → IsCombinational net q ⊎ ((clock : ℕ) × (edge : Edge) × IsClockedBy net q clock edge) → level_or levels q < b
      of_kind q place h t (inl c) = above q place h t c
      of_kind q place h t (inr (clock, edge, is)) = let none = level_of_clocked q clock edge is in omega arith

      go : (xs : List Source) → sources_of net n ≡ xs → number_by xs < b
      go [] e = omega arith
      go (Idle v ∷ more) e = omega arith
      go (Driver q place ∷ more) e =
          let (h, t) = E.wiring.sources_are_drivers n q place (subst (λ (xs : List Source). Contains xs (Driver q place)) (sym e) (Contains-first (Driver q place) more)) in
          of_kind q place h t (kinds net A q place h)

  -- and below the level of a combinational process that is sensitive to it
  below_woken : (p n : ℕ) → IsCombinational net p → Contains (process net p).wakes n → net_number n < level_or levels p
  below_woken p n c w = number_below n (level_or levels p) (level_above_none p c) (λ q place h t comb. level_rises q p (record { feeder = comb; fed = c; place = place; drives = h; wakes = subst (λ (m : ℕ). Contains (process net p).wakes m) (sym t) w }))

  -- a process with a reset may run last of all
  abbrev number_of_kind : ProcessKind → (level : ℕ) → ℕ
  number_of_kind Combinational level = level
  number_of_kind (Clocked clock edge None) level = 0
  number_of_kind (Clocked clock edge (Some reset)) level = greatest + extra net
  number_of_kind Mixed level = 0

  abbrev process_number : ℕ → ℕ
  process_number p = number_of_kind (process net p).kind (level_or levels p)

  number_of_combinational : (p : ℕ) → IsCombinational net p → process_number p ≡ level_or levels p
  number_of_combinational p c = ap (λ (k : ProcessKind). number_of_kind k (level_or levels p)) c.1

  number_of_reset : (k : ProcessKind) (reset : Reset) (level : ℕ) → kind_reset k ≡ Some reset → number_of_kind k level ≡ greatest + extra net
  number_of_reset Combinational reset level h = absurd cc
  number_of_reset (Clocked clock edge None) reset level h = absurd cc
  number_of_reset (Clocked clock edge (Some r)) reset level h = refl
  number_of_reset Mixed reset level h = absurd cc

  net_within : (n : ℕ) → net_number n ≤ greatest + extra net
  net_within n =
      let l : net_number n < suc greatest = number_below n (suc greatest) (omega arith) (λ q place h t c. let k = level_within q in omega arith) in
      omega arith

  process_within : (p : ℕ) → process_number p ≤ greatest + extra net
  process_within p = go (process net p).kind
    where
      go : (k : ProcessKind) → number_of_kind k (level_or levels p) ≤ greatest + extra net
      go Combinational = let k = level_within p in omega arith
      go (Clocked clock edge None) = omega arith
      go (Clocked clock edge (Some reset)) = omega arith
      go Mixed = omega arith

  above : (p n : ℕ) → CanAssign net p → IsDriven net n → Contains (process net p).wakes n → net_number n < process_number p
  above p n (inl c) driven w = rw (number_of_combinational p c) (below_woken p n c w)
  above p n (inr (reset, has)) driven w =
      let one : extra net ≡ 1 = cond-true _ _ _ (late_reset net E p n reset has driven w) in
      let l : net_number n < suc greatest = number_below n (suc greatest) (omega arith) (λ q place h t c. let k = level_within q in omega arith) in
      rw (number_of_reset (process net p).kind reset (level_or levels p) has) (omega arith)

  pub by_levels : Numbered net
  by_levels = record {
    elaborated = E;
    faultless = A;
    of_net = net_number;
    from_one = λ p place c h. rw (number_of_target p place h) (level_above_none p c);
    rises = λ p place n c h looks. rw (number_of_target p place h) (below_woken p n c (A.reads_wake p n c (E.bodies.looks_are_read p place n looks)));
    resets_rise = λ p place n reset h. absurd (outer p n reset.0);
    of_process = process_number;
    process_from_one = λ p c. rw (number_of_combinational p c) (level_above_none p c);
    above = above;
    greatest = greatest + extra net;
    net_within = net_within;
    process_within = process_within;
  }

  pub greatest_is : by_levels.greatest ≡ greatest + extra net
  unfolding by_levels
  greatest_is = refl

-- ---- what is accepted has a numbering

module _ (net : Netlist) (E : IsElaborated net) (A : IsAccepted net) where
  module _ (narrow : net.wide ≡ false) where
    pub by_processes : IsByNets net → ⊥
    by_processes (wide, either) = cc

    pub no_loop : HasNoLoop net
    no_loop ps loop = A (Loop ps) (narrow, loop)

    narrow_numbers : Numbered net
    narrow_numbers = let (levels, greatest, V) = levels_exist net no_loop in by_levels net E (faultless net A) (outer_resets net E by_processes) levels greatest V

  pub numbered : Numbered net
  numbered = go (cases_Bool net.wide)
    where
      go : (net.wide ≡ true) ⊎ (net.wide ≡ false) → Numbered net
      go (inl wide) =
          let (levels, nets, greatest, V) = levels_by_nets_exist net E.wiring (λ ns loop. A (NetLoop ns) (wide, loop)) in
          by_nets net E (faultless net A) levels nets greatest V
      go (inr narrow) = narrow_numbers narrow

-- ---- what is accepted is accepted in the wider language

module _ (net : Netlist) (E : IsElaborated net) (narrow : net.wide ≡ false) (A : IsAccepted net) where
  abbrev wider : Netlist
  wider = record net { wide = true }

  no_net_loop : HasNoNetLoop wider
  no_net_loop = no_circle (λ m n. LooksAt wider n m) (IsDerived wider) (numbered net E A).of_net (λ m n l. rises_along net (numbered net E A) m n (record { driver = l.driver; place = l.place; drives = l.drives; net_is = l.net_is; looks = l.looks }))

  no_wide_loop : HasNoLoop wider
  no_wide_loop =
      let (levels, greatest, V) = levels_exist net (no_loop net E A narrow) in
      no_circle (Feeds wider) (IsCombinational wider) (level_or levels)
      (λ p q f. level_rises net E (faultless net A) (outer_resets net E (by_processes net E A narrow)) levels greatest V p q (record { feeder = f.feeder; fed = f.fed; place = f.place; drives = f.drives; wakes = f.wakes }))

  still_accepted : IsAccepted wider
  still_accepted (Loop ps) (is, loop) = cc
  still_accepted (NetLoop ns) (is, loop) = no_net_loop ns loop
  still_accepted (TwoDrivers n first second) is = A (TwoDrivers n first second) is
  still_accepted (MixedProcess p) (inl mixed) = A (MixedProcess p) (inl mixed)
  still_accepted (MixedProcess p) (inr u) = u.not_calm (follows_inputs u.reset.net _ (inl (undriven_input net E.wiring u.reset.net (narrow_reset net E narrow p u.reset u.is_reset), u.no_clock)))
  still_accepted (ClockNotInput p n) is = A (ClockNotInput p n) is
  still_accepted (EdgeNotSensitive p n) is = A (EdgeNotSensitive p n) is
  still_accepted (ClockAsData p n) is = A (ClockAsData p n) is
  still_accepted (MissingSensitivity p n) is = A (MissingSensitivity p n) is
  still_accepted (Latch p n) is = A (Latch p n) is
  still_accepted (StoredVariable p variable place) is = A (StoredVariable p variable place) is

  still_by_processes : IsByNets wider → ⊥
  still_by_processes (is, inl (ps, loop)) = no_wide_loop ps loop
  still_by_processes (is, inr (p, n, inner)) = outer_resets net E (by_processes net E A narrow) p n inner

  pub wide_accepts : IsAccepted wider × (IsByNets wider → ⊥)
  wide_accepts = (still_accepted, still_by_processes)
