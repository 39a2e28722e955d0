-- What the machine takes from its netlist.
use Rattle.std.proofs.Common.{◌≡◌, ℕ, ◌<◌, ◌≤◌, true, false, List, [], length, get_or, map, Option, sym, ap, subst, ◌∙◌, arith, ◌⊎◌, inl, inr, All}
use Rattle.std.proofs.lemmas.Bool.{cases_Bool, cases_lt}
use Rattle.std.proofs.lemmas.List.Elements.{All-map}
use Rattle.std.proofs.lemmas.List.{get_or-set_same, get_or_default, ext_get_or, get_or_past, length-map}
use Rattle.rtl_model.specs.bodies.Types.{ElementType, KeepsTypes}
use Rattle.rtl_model.specs.nets.CoreNetlist.{core_process, part_effect}
use Rattle.rtl_model.specs.nets.FlatNetlist.{FlatProcess, IsInRange, no_flat_process, process_at}
use Rattle.rtl_model.specs.simulation.Levels.{is_clocked}
use Rattle.rtl_model.proofs.nets.InRange.{process_in_range}
use Rattle.rtl_model.specs.simulation.Netlist as m
use Rattle.rtl_model.specs.simulation.Netlist.{process}
use Rattle.rtl_model.proofs.basics.Lists.{get_or-map_within}
use Rattle.rtl_model.proofs.nets.Processes.{process-core_net}
use Rattle.rtl_model.specs.simulation.Range.{IsValuation}
use Rattle.rtl_drives.specs.Outcomes.{Outcome}
use Rattle.rtl_eval.specs.Runs.{IsOf}
use Rattle.rtl_kernel.specs.drivers.Transactions.{HasRunOf, all_targets, nets_of, no_outcome}
use Rattle.rtl_kernel.proofs.Steps.{keeps_types}
use Rattle.rtl_kernel.proofs.Wiring.{nets_there, targets_are}
use Rattle.rtl_net.specs.Nets.{NetlistView, flat, process_view}
use Rattle.rtl_net.specs.declared.process.Driver.{Driver}
use Rattle.rtl_net.specs.declared.process.Process.{Process}
use Rattle.rtl_net.specs.Core.{core}
use Rattle.rtl_levels.specs.Kept.{MayRun}
use Rattle.rtl_levels.specs.Scheduled.{clocked_wakes}

-- what a run of a process has left, and what others had left
module _ (entries : List (Option ℕ)) (p : ℕ) (old new : List Outcome) (R : HasRunOf entries p old new) where
  pub ran_entries : p < length old → (get_or new p no_outcome).entries ≡ entries
  ran_entries l =
      ap (λ (os : List Outcome). (get_or os p no_outcome).entries) R.is
      ∙ ap (λ (o : Outcome). o.entries) (get_or-set_same old p R.outcome no_outcome l) ∙ R.leaves.entries_are

module _ (net : NetlistView) where
  pub wakes_there : IsInRange (flat net) → (p : ℕ) → All (λ n. n < length net.types) (process (core net) p).wakes
  wakes_there R p = by (cases_lt p (length (flat net).processes))
    where
      by : (p < length (flat net).processes) ⊎ (length (flat net).processes ≤ p) → All (λ n. n < length net.types) (process (core net) p).wakes
      by (inl l) = rw (process-core_net (flat net) p) (process_in_range (flat net) R p l).wakes
      by (inr l) = rw (process-core_net (flat net) p, get_or_past (flat net).processes p no_flat_process l) (λ k d m. absurd (omega (arith, m)))

  pub clocked_there : IsInRange (flat net) → All (λ (nets : List ℕ). All (λ n. n < length net.types) nets) (map clocked_wakes (core net).processes)
  clocked_there R =
      All-map (λ (nets : List ℕ). All (λ n. n < length net.types) nets) clocked_wakes (core net).processes
      (λ k d l. subst (λ (x : m.Process). All (λ n. n < length net.types) (clocked_wakes x)) (get_or_default (core net).processes k m.no_process d l) (row k (cases_Bool (is_clocked (process (core net) k).kind))))
    where
      row : (p : ℕ) → (is_clocked (process (core net) p).kind ≡ true) ⊎ (is_clocked (process (core net) p).kind ≡ false) → All (λ n. n < length net.types) (clocked_wakes (process (core net) p))
      row p (inl e) = rw e (wakes_there R p)
      row p (inr e) = rw e (λ k d m. absurd (omega (arith, m)))

  pub all_targets_there : IsInRange (flat net) → All (λ (nets : List ℕ). All (λ n. n < length net.types) nets) (all_targets net.processes)
  all_targets_there R = All-map (λ (nets : List ℕ). All (λ n. n < length net.types) nets) (λ (p : Process). nets_of p.drives.items) net.processes (nets_there net R)

  pub processes_many : length (core net).processes ≡ length net.processes
  processes_many = length-map (flat net).processes (core_process net.wide net.inputs) ∙ length-map net.processes process_view

  pub drives_of_all : all_targets net.processes ≡ map (λ (x : m.Process). x.drives) (core net).processes
  drives_of_all =
      ext_get_or [] (all_targets net.processes) _ (length-map net.processes _ ∙ sym (length-map (core net).processes _ ∙ processes_many))
      (λ p l. targets_are net p ∙ sym (get_or-map_within (λ (x : m.Process). x.drives) (core net).processes p m.no_process [] (rw (processes_many, ← length-map net.processes (λ (x : Process). nets_of x.drives.items)) l)))

  -- as many as a process drives have entries
  pub driven_many : (p : ℕ) (o : Outcome) → IsOf (process_at (flat net) p) o → length (process (core net) p).drives ≡ length o.entries
  driven_many p o own = ap (λ (x : m.Process). length x.drives) (process-core_net (flat net) p) ∙ length-map (process_at (flat net) p).drivers _ ∙ sym own.each_driver

  module _ (p : ℕ) (q : Process) (there : p < length net.processes) (is : q ≡ get_or net.processes p q) where
    pub drives_are : nets_of q.drives.items ≡ (process (core net) p).drives
    drives_are =
        ap (λ (x : Process). nets_of x.drives.items) is
        ∙ sym (get_or-map_within (λ (x : Process). nets_of x.drives.items) net.processes p q [] there)
        ∙ targets_are net p

    pub wakes_are : q.wakes.items ≡ (process (core net) p).wakes
    wakes_are =
        ap (λ (x : Process). x.wakes.items) is
        ∙ sym (ap (λ (x : FlatProcess). x.wakes) (get_or-map_within process_view net.processes p q no_flat_process there))
        ∙ sym (ap (λ (x : m.Process). x.wakes) (process-core_net (flat net) p))

  -- the nets of drivers that are looked up
  pub drives_looked_up : (p : ℕ) (l : p < length net.processes) (ps : List Process) (q : Process) (ds : List Driver) → ps ≡ net.processes → q ≡ get_or ps p q → ds ≡ q.drives.items
      → nets_of ds ≡ (process (core net) p).drives
  drives_looked_up p l ps q ds same is here = ap nets_of here ∙ drives_are p q l (is ∙ ap (λ (xs : List Process). get_or xs p q) same)

module _ {E : Type 0} (process_of : E → FlatProcess) (types : E → List ElementType) (most : E → ℕ) (net : NetlistView) (bodies : List E) (runs : List Outcome)
    (M : MayRun process_of types most net bodies runs) where
  pub runs_many : length runs ≡ length net.processes
  runs_many = M.room.as_many ∙ length-map net.processes process_view

  pub bodies_many : length bodies ≡ length net.processes
  bodies_many = M.run_bodies.as_many ∙ length-map net.processes process_view

-- what the run of a process's body is given, and what it leaves
module _ {E : Type 0} (process_of : E → FlatProcess) (types : E → List ElementType) (most : E → ℕ) (net : NetlistView) (bodies : List E) (runs : List Outcome)
    (M : MayRun process_of types most net bodies runs) (p : ℕ) (there : p < length net.processes) (e : E) (is : e ≡ get_or bodies p e) where
  in_bodies : p < length bodies
  in_bodies = rw (bodies_many process_of types most net bodies runs M) there

  in_runs : p < length runs
  in_runs = rw (runs_many process_of types most net bodies runs M) there

  types_are : types e ≡ (flat net).types
  types_are = ap types is ∙ M.run_bodies.among p e in_bodies

  pub process_is : process_of e ≡ process_at (flat net) p
  process_is = ap process_of is ∙ M.run_bodies.each p e in_bodies

  pub each_given : (v : List ℕ) → IsValuation (core net) v → length v ≡ length (types e)
  each_given v V = V.each_net ∙ M.in_range.each_starts ∙ sym (ap length types_are)

  pub typed : (v : List ℕ) → IsValuation (core net) v → KeepsTypes (types e) v
  typed v V = subst (λ (ts : List ElementType). KeepsTypes ts v) (sym types_are) (keeps_types (flat net) M.in_range M.connected v V)

  pub effect_is : (before v : List ℕ) → part_effect (process_of e) (process_of e).body before v ≡ (process (core net) p).effect before v
  effect_is before v =
      ap (λ (x : FlatProcess). part_effect x x.body before v) process_is
      ∙ sym (ap (λ (x : m.Process). x.effect before v) (process-core_net (flat net) p))

  pub effect_left : (before v : List ℕ) (entries : List (Option ℕ)) → entries ≡ part_effect (process_of e) (process_of e).body before v → entries ≡ (process (core net) p).effect before v
  effect_left before v entries left = left ∙ effect_is before v

  -- the run that is there has its room
  module _ (o : Outcome) (was : o ≡ get_or runs p o) where
    pub was_run : o ≡ get_or runs p no_outcome
    was_run = was ∙ get_or_default runs p o no_outcome in_runs

    pub own : IsOf (process_of e) o
    own = subst (λ (x : Outcome). IsOf (process_of e) x) (sym was_run)
        (subst (λ (x : FlatProcess). IsOf x (get_or runs p no_outcome)) (sym process_is) (M.room.own p in_runs))

    pub room : most e ≤ o.room
    room = let fits = M.room.room p e in_bodies in
        let body : most e ≡ most (get_or bodies p e) = ap most is in
        let run : o.room ≡ (get_or runs p no_outcome).room = ap (λ (x : Outcome). x.room) was_run in
        omega (arith, fits, body, run)
