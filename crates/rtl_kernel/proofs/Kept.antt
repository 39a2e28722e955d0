-- What a kernel's parts ask, and that its steps keep what holds of every kernel.
use Rattle.std.proofs.Common.{◌≡◌, ℕ, ◌<◌, ◌≤◌, Bool, true, false, List, [], length, get_or, set, map, refl, sym, ap, subst, ◌∙◌, arith, Contains, All}
use Rattle.std.specs.Prelude.{IfSome}
use Rattle.std.proofs.lemmas.List.{length-map, length-set}
use Rattle.rtl_model.specs.bodies.Types.{ElementType, KeepsTypes}
use Rattle.rtl_model.specs.nets.FlatNetlist.{FlatProcess, process_at, flat_sources}
use Rattle.rtl_model.specs.nets.CoreNetlist.{core_netlist, part_effect}
use Rattle.rtl_model.specs.simulation.Netlist.{Netlist, Source}
use Rattle.rtl_model.specs.simulation.Cycle.{State, with_changes, all_driver_values, after_inputs, is_quiet, after_run, resumed_processes, after_update}
use Rattle.rtl_model.proofs.nets.Connected.{connected_is_elaborated}
use Rattle.rtl_model.proofs.nets.Sources.{sources-core_net}
use Rattle.rtl_model.proofs.simulation.Order.{waits_in}
use Rattle.vhdl_values.specs.declared.scalar.Nine.{Nine}
use Rattle.rtl_awaited_edges.specs.declared.awaited.ClockEdge.{ClockEdge}
use Rattle.rtl_awaited_edges.specs.Awaiting.{IsAsleep}
use Rattle.rtl_awaited_edges.proofs.FirstAwaited.{first_there, asleep_left}
use Rattle.rtl_eval.specs.Runs.{IsOf}
use Rattle.rtl_net_groups.specs.Groups.{Grouping}
use Rattle.rtl_net.specs.Nets.{NetlistView, flat, process_view}
use Rattle.rtl_kernel.specs.drivers.Resolved.{AreResolved, NotedAreResolved}
use Rattle.rtl_kernel.specs.drivers.Rows.{IsSourceThere}
use Rattle.rtl_kernel.specs.drivers.Brought.{NotedNets, IsDriverOf, IsBrought, BringsAll, begun}
use Rattle.rtl_kernel.specs.drivers.Transactions.{Transactions, IsActive, HasRunOf, HaveEntries, driver_at, pending_of, without_entries, no_outcome}
use Rattle.rtl_kernel.specs.kernel.Kept.{AreOfNet, standing_of, IsKernel, IsSound, Parts, state_of}
use Rattle.rtl_kernel.specs.kernel.Given.{AreGiven}
use Rattle.rtl_kernel.specs.kernel.Simulation.{changes_of}
use Rattle.rtl_kernel.specs.values.TwoValues.{TwoValues}
use Rattle.rtl_kernel.specs.wakes.ToRun.{ToRun}
use Rattle.rtl_kernel.specs.wakes.Woken.{AreWoken, wakers_of}
use Rattle.rtl_kernel.proofs.Brought.{still}
use Rattle.rtl_kernel.proofs.Changing.{given_values}
use Rattle.rtl_kernel.proofs.Cycles.{woken_are_resumed, brought_are_updated}
use Rattle.rtl_kernel.proofs.Inputs.{are_inputs, named}
use Rattle.rtl_kernel.proofs.Running.{effect_length, room_ran, room_taken, state_asleep, state_given, state_ran, state_updated}
use Rattle.rtl_kernel.proofs.Steps.{keeps_types, sound_given, sound_ran, sound_updated, sources_there, wired}
use Rattle.rtl_kernel.proofs.Wiring.{each_target, indexed_there, targets_are, wakes_are}

module _ {E : Type 0} {process : E → FlatProcess} {types : E → List ElementType} {most : E → ℕ} {bodies : List E} {k : Parts}
    (K : IsKernel process types most bodies k) where
  abbrev net : NetlistView
  net = k.nets.net

  abbrev core_net : Netlist
  core_net = core_netlist (flat k.nets.net)

  abbrev v : TwoValues
  v = k.nets.values

  abbrev t : Transactions
  t = k.drivers

  abbrev r : ToRun
  r = k.resumed

  abbrev before_step : State
  before_step = state_of v t r

  pub all_now : length v.current ≡ length net.types
  all_now = K.sound.in_range.now.each_net ∙ K.of_net.in_range.each_starts

  pub all_before : length v.before ≡ length net.types
  all_before = K.sound.in_range.before.each_net ∙ K.of_net.in_range.each_starts

  pub now_typed : KeepsTypes net.types v.current
  now_typed = keeps_types (flat net) K.of_net.in_range K.of_net.connected v.current K.sound.in_range.now

  pub before_typed : KeepsTypes net.types v.before
  before_typed = keeps_types (flat net) K.of_net.in_range K.of_net.connected v.before K.sound.in_range.before

  -- the clock of the edge is there
  pub clock_now : IfSome k.awaited (λ (e : ClockEdge). e.clock < length v.current)
  clock_now = first_there net K.of_net.in_range v.current K.sound.in_range.now.each_net k.awaited K.of_net.awaits.first

  pub clock_before : IfSome k.awaited (λ (e : ClockEdge). e.clock < length v.before)
  clock_before = first_there net K.of_net.in_range v.before K.sound.in_range.before.each_net k.awaited K.of_net.awaits.first

  -- the processes that wake on nets are there
  pub wakers_there : (groups : Grouping) → groups ≡ v.groups → (n p : ℕ) → Contains (get_or (wakers_of groups) n []) p → p < length r.waiting
  wakers_there groups same n p h =
      rw (K.sound.each_process, length-map)
      (indexed_there net (wakers_of v.groups) K.of_net.is_index n p (subst (λ (g : Grouping). Contains (get_or (wakers_of g) n []) p) same h))

  -- ---- a process that is to run

  module _ (p : ℕ) (waits : get_or r.waiting p false ≡ true) where
    pub in_processes : p < length (flat net).processes
    in_processes = rw (← K.sound.each_process) (waits_in r.waiting p waits)

    pub in_await_it : p < length k.await_it
    in_await_it = rw (K.of_net.awaits.each_process, length-map) in_processes

    pub in_bodies : p < length bodies
    in_bodies = rw (K.of_net.run_bodies.as_many) in_processes

    pub in_outcomes : p < length t.outcomes
    in_outcomes = rw (K.room.as_many) in_processes

    pub fresh : IsActive (pending_of t.outcomes) p → ⊥
    fresh = K.sound.fresh p waits

    module _ (r' : ToRun) (waiting : r'.waiting ≡ set r.waiting p false) where
      -- as many processes are counted as there are
      pub each_body : length r'.waiting ≤ length bodies
      each_body = omega (arith, ap length waiting, length-set r.waiting p false, K.sound.each_process, K.of_net.run_bodies.as_many)

      pub each_outcome : length r'.waiting ≤ length t.outcomes
      each_outcome = omega (arith, ap length waiting, length-set r.waiting p false, K.sound.each_process, K.room.as_many)

      module _ (awaits_it : get_or k.await_it p false ≡ true) (asleep : IsAsleep k.awaited v.before v.current) where
        pub is_asleep : state_of v t r' ≡ after_run core_net p before_step
        is_asleep =
            state_asleep (flat net) v t r r' p in_outcomes (K.room.own p in_outcomes)
            (asleep_left net (connected_is_elaborated (flat net) K.of_net.in_range K.of_net.connected) k.awaited k.await_it K.of_net.awaits v.before v.current p awaits_it asleep) waiting

        pub kept_asleep : IsKernel process types most bodies (record k { resumed = r' })
        kept_asleep = record {
          of_net = K.of_net;
          room = K.room;
          sound = subst (IsSound (flat net)) (sym is_asleep) (sound_ran (flat net) K.of_net.in_range K.of_net.connected before_step p K.sound);
          idle = K.idle;
        }

    module _ (e : E) (is : e ≡ get_or bodies p e) where
      pub types_are : types e ≡ net.types
      types_are = ap types is ∙ K.of_net.run_bodies.among p e in_bodies

      pub process_is : process e ≡ process_at (flat net) p
      process_is = ap process is ∙ K.of_net.run_bodies.each p e in_bodies

      pub own : IsOf (process e) (get_or t.outcomes p no_outcome)
      own = rw process_is (K.room.own p in_outcomes)

      pub room : most e ≤ (get_or t.outcomes p no_outcome).room
      room = rw is (K.room.room p e in_bodies)

      module _ (t' : Transactions) (r' : ToRun) (drivers : t'.drivers ≡ t.drivers) (R : HasRunOf (part_effect (process e) (process e).body v.before v.current) p t.outcomes t'.outcomes)
          (waiting : r'.waiting ≡ set r.waiting p false) where
        pub is_ran : state_of v t' r' ≡ after_run core_net p before_step
        is_ran = state_ran (flat net) v t r t' r' p (process e) process_is in_outcomes own fresh drivers R waiting

        pub kept_ran : IsKernel process types most bodies (record k { drivers = t'; resumed = r' })
        kept_ran = record {
          of_net = K.of_net;
          room = room_ran most (flat net) bodies p _ t.outcomes t'.outcomes
              (effect_length (flat net) v t r (process e) ∙ ap (λ (q : FlatProcess). length q.drivers) process_is) in_outcomes R K.room;
          sound = subst (IsSound (flat net)) (sym is_ran) (sound_ran (flat net) K.of_net.in_range K.of_net.connected before_step p K.sound);
          idle = K.idle;
        }

  -- ---- new values

  -- what stays fits on
  of_same : (groups : Grouping) → groups ≡ v.groups → AreOfNet process types bodies net (record (standing_of k) { groups = groups })
  of_same groups same = subst (λ (g : Grouping). AreOfNet process types bodies net (record (standing_of k) { groups = g })) (sym same) K.of_net

  wakes_same : (groups : Grouping) (before now : List ℕ) (waiting : List Bool) → groups ≡ v.groups → length waiting ≡ length r.waiting → AreWoken (wakers_of groups) before now waiting
      → waiting ≡ resumed_processes core_net before now
  wakes_same groups before now waiting same as_many W =
      woken_are_resumed core_net before now (wakers_of v.groups) waiting (as_many ∙ K.sound.each_process ∙ sym (length-map (flat net).processes _))
      (rw (← wakes_are net) K.of_net.is_index) (subst (λ (g : Grouping). AreWoken (wakers_of g) before now waiting) same W)

  -- these nets, of the same netlist
  same_net : (n : NotedNets) → n.net ≡ net → (noted : List ℕ) → n.noted ≡ noted → record { net = net; values = n.values; noted = noted } ≡ n
  same_net n e noted f = λ i. record { net = sym e i; values = n.values; noted = sym f i }

  rows_match : length (pending_of t.outcomes) ≡ length t.drivers
  rows_match = length-map t.outcomes _ ∙ K.room.as_many ∙ sym K.sound.each_row

  sound_update : IsSound (flat net) (after_update core_net before_step)
  sound_update = sound_updated (flat net) K.of_net.in_range K.of_net.connected before_step rows_match K.sound

  pub have_entries : HaveEntries net.processes t.outcomes
  have_entries = record { as_many = sym (K.room.as_many ∙ length-map net.processes process_view); each_driver = each_target net most bodies t.outcomes K.room }

  module _ (drivers' : List (List ℕ)) (n : NotedNets) (drivers : drivers' ≡ all_driver_values (pending_of t.outcomes) t.drivers)
      (B : BringsAll net.processes t.drivers drivers' (begun k.nets) n) where
    -- the sources stand in the drivers once these are updated
    pub sources_stand : (m : ℕ) (source : Source) → Contains (flat_sources (flat n.net) m) source → IsSourceThere drivers' source
    sources_stand m source h =
        subst (λ (rows : List (List ℕ)). IsSourceThere rows source) (sym drivers)
        (sources_there (flat net) K.of_net.in_range K.of_net.connected (after_update core_net before_step) sound_update m source
        (subst (λ (w : NetlistView). Contains (flat_sources (flat w) m) source) B.stay.net_stays h))

    module _ (n' : NotedNets) (R : NotedAreResolved drivers' n n') (t' : Transactions) (r' : ToRun) (drivers_are : t'.drivers ≡ drivers')
        (outcomes : t'.outcomes ≡ map without_entries t.outcomes) (as_many : length r'.waiting ≡ length r.waiting)
        (W : AreWoken (wakers_of n'.values.groups) n'.values.before n'.values.current r'.waiting) where
      groups : n'.values.groups ≡ v.groups
      groups = R.groups_stay ∙ B.stay.groups_stay

      before : n'.values.before ≡ v.current
      before = R.before_stays ∙ B.stay.before_stays

      brought : (m : ℕ) → IsBrought (IsDriverOf net.processes) (λ d. driver_at t.drivers d.0 d.1)
          (λ d. driver_at (all_driver_values (pending_of t.outcomes) t.drivers) d.0 d.1) (begun k.nets) n m
      brought m =
          subst (λ (rows : List (List ℕ)). IsBrought (IsDriverOf net.processes) (λ d. driver_at t.drivers d.0 d.1) (λ d. driver_at rows d.0 d.1) (begun k.nets) n m) drivers (B.each m)

      resolved : AreResolved core_net (all_driver_values (pending_of t.outcomes) t.drivers) (λ m. Contains n.noted (get_or v.groups.of_net m 0)) n.values.current n'.values.current
      resolved =
          subst (λ (rows : List (List ℕ)). AreResolved core_net rows (λ m. Contains n.noted (get_or v.groups.of_net m 0)) n.values.current n'.values.current) drivers
          (still (λ w g. AreResolved (core_netlist (flat w)) drivers' (λ m. Contains n.noted (get_or g.of_net m 0)) n.values.current n'.values.current) n
          (record n { net = net; values = record (n.values) { groups = v.groups } })
          (record { net_stays = sym B.stay.net_stays; groups_stay = sym B.stay.groups_stay; before_stays = refl; as_many = refl; noted_stay = λ g h. h }) R.current)

      pub is_updated : state_of n'.values t' r' ≡ after_update core_net before_step
      is_updated =
          state_updated (flat net) v t r n'.values t' r' before
          (brought_are_updated core_net (λ m. refl) net.processes before_step (begun k.nets) n (wired (flat net) K.of_net.in_range K.of_net.connected) K.sound.consistent
          K.sound.in_range.now.each_net refl (λ m l. sym (sources-core_net (flat net) m (rw (← K.of_net.in_range.each_starts) l))) (targets_are net)
          n'.values.current B.stay.as_many brought resolved)
          (drivers_are ∙ drivers) outcomes (wakes_same n'.values.groups n'.values.before n'.values.current r'.waiting groups as_many W)

      pub kept_updated : IsKernel process types most bodies (record k { nets = n'; drivers = t'; resumed = r' })
      kept_updated =
          subst (λ (m : NotedNets). IsKernel process types most bodies (record k { nets = m; drivers = t'; resumed = r' }))
          (same_net n' (R.net_stays ∙ B.stay.net_stays) [] R.none_noted) (record {
            of_net = of_same n'.values.groups groups;
            room = room_taken most (flat net) bodies t.outcomes t'.outcomes outcomes K.room;
            sound = subst (IsSound (flat net)) (sym is_updated) sound_update;
            idle = refl;
          })

  -- ---- new values of in ports

  module _ (cs : List (ℕ × Nine)) (inputs : All (λ (c : ℕ × Nine). Contains net.inputs c.0) cs) (n : NotedNets) (G : AreGiven (changes_of cs) k.nets n) (r' : ToRun)
      (as_many : length r'.waiting ≡ length r.waiting) (W : AreWoken (wakers_of n.values.groups) n.values.before n.values.current r'.waiting) where
    pub is_given : state_of n.values t r' ≡ after_inputs core_net (with_changes (changes_of cs) v.current) before_step
    is_given =
        state_given (flat net) v t r n.values r' (with_changes (changes_of cs) v.current) G.before
        (given_values core_net (changes_of cs) v.current n.values.current K.sound.in_range.now.each_net G.current (named (flat net) K.of_net.in_range cs inputs))
        (wakes_same n.values.groups n.values.before n.values.current r'.waiting G.groups_stay as_many W)

    pub kept_given : is_quiet before_step ≡ true → IsKernel process types most bodies (record k { nets = n; resumed = r' })
    kept_given quiet =
        subst (λ (m : NotedNets). IsKernel process types most bodies (record k { nets = m; resumed = r' }))
        (same_net n G.net_stays [] (G.noted_stay ∙ K.idle)) (record {
          of_net = of_same n.values.groups G.groups_stay;
          room = K.room;
          sound = subst (IsSound (flat net)) (sym is_given) (sound_given (flat net) K.of_net.in_range K.of_net.connected (with_changes (changes_of cs) v.current) before_step
              (are_inputs (flat net) K.of_net.in_range cs v.current K.sound.in_range.now) quiet K.sound);
          idle = refl;
        })
