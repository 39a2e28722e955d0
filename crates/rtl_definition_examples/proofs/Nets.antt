-- Faults, reports and races of small netlists.
use Rattle.std.proofs.Common.{◌≡◌, ℕ, zero, suc, ◌<◌, ◌≤◌, true, ◌==◌, [], ◌∷◌, None, refl, sym, ap, subst, arith, ◌⊎◌, inl, inr, Contains, if◌then◌else◌}
use Rattle.vhdl_values.specs.Numbers.{digits_of}
use Rattle.rtl_model.specs.nets.CoreNetlist.{core_netlist}
use Rattle.rtl_model.specs.simulation.Netlist.{Edge, Rising, IsInput, IsClockedBy, HasPlace, process, target}
use Rattle.rtl_model.specs.simulation.Cycle.{State}
use Rattle.rtl_model.specs.simulation.Moments.{HasSettled}
use Rattle.rtl_model.specs.simulation.Accepted.{Feeds}
use Rattle.rtl_model.specs.simulation.Levels.{ChainTo, IsLevel}
use Rattle.rtl_model.specs.simulation.Races.{IsRace, IsChangedData}
use Rattle.rtl_definition_examples.specs.Nets.{ring, FaultsOfNets, OrderOfFaults, OrderOfClocks, join, wakes_on_idle, ReportsOfNets}
use Rattle.rtl_definition_examples.specs.Nets.{rc, released, ResetsOfNets, EdgeWouldWin, ResetWouldBeLeftOut, ResetWouldRead, states, one_rise, StatesOfNets}
use Rattle.rtl_definition_examples.specs.Nets.{two_clocks, clocks_of_two, values_of, RacesOfNets}
use Rattle.rtl_definition_examples.specs.Toggling.{toggling, one_edge}
use Rattle.rtl_model.proofs.simulation.Deltas.{after}
use Rattle.rtl_definition_examples.proofs.Computing.{first_cycle, next_cycle, starts_in, goes_on}
use Rattle.rtl_definition_examples.proofs.Sound.{sound_by}

-- ---- faults

ring_feeds : Feeds (core_netlist ring) 2 0 × Feeds (core_netlist ring) 1 2 × Feeds (core_netlist ring) 0 1
ring_feeds = (
  record { feeder = (omega arith, refl); fed = (omega arith, refl); place = 0; drives = omega arith; wakes = (0, omega arith, refl) },
  record { feeder = (omega arith, refl); fed = (omega arith, refl); place = 0; drives = omega arith; wakes = (0, omega arith, refl) },
  record { feeder = (omega arith, refl); fed = (omega arith, refl); place = 0; drives = omega arith; wakes = (0, omega arith, refl) },
)

-- the second process doesn't feed the first
ring_not : Feeds (core_netlist ring) 1 0 → ⊥
ring_not f = go f.place f.drives f.wakes
  where
    go : (place : ℕ) → HasPlace (core_netlist ring) 1 place → Contains (2 ∷ []) (target (core_netlist ring) 1 place) → ⊥
    go zero h (zero, l, e) = cc
    go zero h (suc k, l, e) = absurd (omega arith)
    go (suc place) h w = absurd (omega arith)

pub faults_of_nets : FaultsOfNets
faults_of_nets = record {
  in_order = refl;
  first_two = (_, refl);
  idle_last = (_, refl);
  loop = (refl, (ring_feeds.0, (ring_feeds.1, ring_feeds.2)));
  other_way = λ h. ring_not h.0;
  reset_is_clock = ((1, (Rising, (None, refl))), inr (_, refl, refl));
}

pub order_of_faults : OrderOfFaults
order_of_faults = record {
  by_number = inl (omega arith);
  by_net = inr (refl, inl (omega arith));
  by_process = inr (refl, inl (omega arith));
  by_its_net = inr (refl, inr (refl, inl (omega arith)));
  stored_last = inl (omega arith);
  by_variable = inr (refl, inr (refl, inl (omega arith)));
  by_element = inr (refl, inr (refl, inr (refl, inl (omega arith))));
}

pub order_of_clocks : OrderOfClocks
order_of_clocks = record {
  edges = (inr (refl, inl (omega arith)), inr (refl, inl (omega arith)), inr (refl, inl (omega arith)));
  net_first = inl (omega arith);
}

-- ---- reports

-- what the first two processes drive wakes neither, and the third drives y
join_fed : (p q : ℕ) → Feeds (core_netlist join) p q → (p < 2) × (q ≡ 2)
join_fed p q f = go p q f.feeder.0 f.fed.0 f.place f.drives f.wakes
  where
    go : (p q : ℕ) → p < 3 → q < 3 → (place : ℕ) → HasPlace (core_netlist join) p place → Contains (process (core_netlist join) q).wakes (target (core_netlist join) p place) → (p < 2) × (q ≡ 2)
    go p q l m (suc place) h w = absurd (not_two p l h)
      where
        not_two : (p : ℕ) → p < 3 → HasPlace (core_netlist join) p (suc place) → ⊥
        not_two zero l h = omega arith
        not_two (suc zero) l h = omega arith
        not_two (suc (suc zero)) l h = omega arith
        not_two (suc (suc (suc p))) l h = omega arith
    go zero (suc (suc zero)) l m zero h w = (omega arith, refl)
    go (suc zero) (suc (suc zero)) l m zero h w = (omega arith, refl)
    go zero zero l m zero h (zero, k, e) = cc
    go zero zero l m zero h (suc j, k, e) = absurd (omega arith)
    go zero (suc zero) l m zero h (zero, k, e) = cc
    go zero (suc zero) l m zero h (suc j, k, e) = absurd (omega arith)
    go (suc zero) zero l m zero h (zero, k, e) = cc
    go (suc zero) zero l m zero h (suc j, k, e) = absurd (omega arith)
    go (suc zero) (suc zero) l m zero h (zero, k, e) = cc
    go (suc zero) (suc zero) l m zero h (suc j, k, e) = absurd (omega arith)
    go (suc (suc zero)) zero l m zero h (zero, k, e) = cc
    go (suc (suc zero)) zero l m zero h (suc j, k, e) = absurd (omega arith)
    go (suc (suc zero)) (suc zero) l m zero h (zero, k, e) = cc
    go (suc (suc zero)) (suc zero) l m zero h (suc j, k, e) = absurd (omega arith)
    go (suc (suc zero)) (suc (suc zero)) l m zero h (zero, k, e) = cc
    go (suc (suc zero)) (suc (suc zero)) l m zero h (suc zero, k, e) = cc
    go (suc (suc zero)) (suc (suc zero)) l m zero h (suc (suc j), k, e) = absurd (omega arith)
    go (suc (suc (suc p))) q l m zero h w = absurd (omega arith)
    go zero (suc (suc (suc q))) l m zero h w = absurd (omega arith)
    go (suc zero) (suc (suc (suc q))) l m zero h w = absurd (omega arith)
    go (suc (suc zero)) (suc (suc (suc q))) l m zero h w = absurd (omega arith)

-- a chain is no longer than two, and one that ends with neither of the last is of one
join_chain : (q n : ℕ) → ChainTo (core_netlist join) q n → (n ≤ 2) × (q < 2 → n ≤ 1)
join_chain q zero c = absurd c
join_chain q (suc zero) c = (omega arith, λ l. omega arith)
join_chain q (suc (suc n)) (p, c, f) =
    let (l, e) = join_fed p q f in
    let (a, b) = join_chain p (suc n) c in
    let k = b l in
    (omega arith, λ m. absurd (omega arith))

first_level : (p : ℕ) → p < 2 → (process (core_netlist join) p).kind ≡ (process (core_netlist join) 0).kind → IsLevel (core_netlist join) p 1
first_level p l e = record { reached = (omega arith, e); longest = λ n c. (join_chain p n c).1 l }

feeds_last : (Feeds (core_netlist join) 0 2) × (Feeds (core_netlist join) 1 2)
feeds_last = (
  record { feeder = (omega arith, refl); fed = (omega arith, refl); place = 0; drives = omega arith; wakes = (0, omega arith, refl) },
  record { feeder = (omega arith, refl); fed = (omega arith, refl); place = 0; drives = omega arith; wakes = (1, omega arith, refl) },
)

last_level : IsLevel (core_netlist join) 2 2
last_level = record { reached = (0, (omega arith, refl), feeds_last.0); longest = λ n c. (join_chain 2 n c).0 }

pub reports_of_nets : ReportsOfNets
reports_of_nets = record {
  sound = sound_by join (λ p. if p == 2 then 2 else 1) refl;
  of_levels = refl;
  from_lowest = (1, last_level, first_level 0 (omega arith) refl, feeds_last.0, λ r l is f. absurd (omega arith));
  not_from_other = λ (below, is, lower, f, lowest).
      let a = is.longest 2 last_level.reached in
      let b = last_level.longest (suc below) is.reached in
      let e : 1 ≡ below = omega arith in
      lowest 0 (omega arith) (subst (λ (k : ℕ). IsLevel (core_netlist join) 0 k) e (first_level 0 (omega arith) refl)) feeds_last.0;
  none_at_one = λ h. let e = h.1 in cc;
  idle_is_sound = sound_by wakes_on_idle (λ p. 1) refl;
  idle_bound = refl;
}

-- ---- resets

rc_0 : State
rc_0 = after (core_netlist rc) 2 (first_cycle (core_netlist rc) (released 0))

settled_0 : HasSettled (core_netlist rc) released 0 2 rc_0
unfolding rc_0 digits_of
settled_0 = starts_in (core_netlist rc) released 2 refl

rc_1 : State
rc_1 = next_cycle (core_netlist rc) (released 1) rc_0

settled_1 : HasSettled (core_netlist rc) released 1 0 rc_1
unfolding rc_1 rc_0 digits_of
settled_1 = goes_on (core_netlist rc) released 0 2 rc_0 0 settled_0 refl

rc_2 : State
rc_2 = after (core_netlist rc) 2 (next_cycle (core_netlist rc) (released 2) rc_1)

settled_2 : HasSettled (core_netlist rc) released 2 2 rc_2
unfolding rc_2 rc_1 rc_0 digits_of
settled_2 = goes_on (core_netlist rc) released 1 0 rc_1 2 settled_1 refl

pub resets_of_nets : ResetsOfNets
unfolding rc_2 rc_1 rc_0 digits_of
resets_of_nets = record {
  sound = sound_by rc (λ p. 1) refl;
  bound_is = refl;
  held = (2, rc_0, settled_0, refl);
  takes_two = (rc_0, settled_0);
  one_counted = (2, rc_2, settled_2, refl);
  not_sensitive = (inr (_, refl, refl), not_awake);
  reads_signal = inl refl;
}
  where
    not_awake : Contains {X = ℕ} (0 ∷ []) 1 → ⊥
    not_awake (zero, l, e) = cc
    not_awake (suc k, l, e) = absurd (omega arith)

pub edge_would_win : EdgeWouldWin
edge_would_win = record { right = refl; wrong = refl }

pub reset_would_be_left_out : ResetWouldBeLeftOut
reset_would_be_left_out = record {
  simulated = (3, after (core_netlist (toggling true)) 3 (first_cycle (core_netlist (toggling true)) (one_edge true 0)), starts_in (core_netlist (toggling true)) (one_edge true) 3 refl, refl);
  right = refl;
  wrong = refl;
}

pub reset_would_read : ResetWouldRead
reset_would_read = record { of_one = refl; of_zero = refl }

-- ---- states

states_0 : State
states_0 = after (core_netlist states) 1 (first_cycle (core_netlist states) (one_rise 0))

states_settled : HasSettled (core_netlist states) one_rise 0 1 states_0
unfolding states_0
states_settled = starts_in (core_netlist states) one_rise 1 refl

pub states_of_nets : StatesOfNets
unfolding states_0
states_of_nets = record {
  sound = sound_by states (λ p. 1) refl;
  at_start = (1, states_0, states_settled, refl);
  at_edge = (2, after (core_netlist states) 2 (next_cycle (core_netlist states) (one_rise 1) states_0), goes_on (core_netlist states) one_rise 0 1 states_0 2 states_settled refl, refl);
}

-- ---- races

data_or_clock : (n : ℕ) → IsInput (core_netlist two_clocks) n → (values_of 2 2 n ≡ values_of 3 2 n → ⊥) → (n ≡ 0) ⊎ (n ≡ 1)
data_or_clock zero is h = inl refl
data_or_clock (suc zero) is h = inr refl
data_or_clock (suc (suc zero)) is h = absurd (h refl)
data_or_clock (suc (suc (suc zero))) is h = absurd (h refl)
data_or_clock (suc (suc (suc (suc n)))) is h = absurd (h refl)

none_of : (n : ℕ) (edge : Edge) → n ≡ 2 → Contains {X = ℕ × Edge} clocks_of_two (n, edge) → ⊥
none_of n edge e (zero, l, at) = let a : 0 ≡ n = ap (λ (x : ℕ × Edge). x.0) at in absurd (omega arith)
none_of n edge e (suc zero, l, at) = let a : 1 ≡ n = ap (λ (x : ℕ × Edge). x.0) at in absurd (omega arith)
none_of n edge e (suc (suc k), l, at) = absurd (omega arith)

pub races_of_nets : RacesOfNets
races_of_nets = record {
  clocks_alone = λ race. no_race race (data_or_clock race.input race.is_input race.changes);
  lowest = record {
    race = (record { is_input = refl; no_clock = λ edge c. none_of 2 edge refl c; changes = λ e. cc }, (Rising, (0, omega arith, refl), refl));
    lowest_input = below_two;
    lowest_clock = λ n l active. absurd (omega arith);
  };
  not_highest = λ h. h.lowest_clock 0 (omega arith) (Rising, (0, omega arith, refl), refl);
}
  where
    no_race : (race : IsRace (core_netlist two_clocks) (values_of 2 2) (values_of 3 2)) → (race.input ≡ 0) ⊎ (race.input ≡ 1) → ⊥
    no_race race (inl e) = race.no_clock (0, (Rising, subst (λ (n : ℕ). IsClockedBy (core_netlist two_clocks) 0 n Rising) (sym e) (None, refl)))
    no_race race (inr e) = race.no_clock (1, (Rising, subst (λ (n : ℕ). IsClockedBy (core_netlist two_clocks) 1 n Rising) (sym e) (None, refl)))

    below_two : (n : ℕ) → n < 2 → IsChangedData (core_netlist two_clocks) clocks_of_two (values_of 2 2) (values_of 3 3) n → ⊥
    below_two zero l d = d.no_clock Rising (0, omega arith, refl)
    below_two (suc zero) l d = d.no_clock Rising (1, omega arith, refl)
    below_two (suc (suc n)) l d = absurd (omega arith)
