-- The engine by events: from where a moment has begun, and from there to the next.
use Rattle.std.proofs.Common.{◌≡◌, ℕ, suc, ◌≤◌, List, length, sym, subst, ◌∙◌}
use Rattle.std.specs.Prelude.{All, Contains, IsTrue}
use Rattle.rtl_model.specs.nets.CoreNetlist.{core_netlist}
use Rattle.rtl_model.specs.simulation.Cycle.{State, after_inputs, is_quiet, with_changes}
use Rattle.rtl_model.specs.simulation.Moments.{Begun, HasNoneToRun, HasRun, HasSettled, IsMost, IsUnsettled, SettlesTo, Takes}
use Rattle.rtl_model.proofs.simulation.Order.{HasRun-done}
use Rattle.rtl_net.specs.Core.{core}
use Rattle.rtl_net.specs.Nets.{NetlistView, flat}
use Rattle.rtl_net_groups.specs.Touching.{Chunks}
use Rattle.rtl_agenda.specs.Agenda.{Change}
use Rattle.rtl_kernel.specs.kernel.Simulation.{Simulation, changes_of}
use Rattle.rtl_stim.specs.Stimuli.{inputs_at}
use Rattle.rtl_simulation.specs.declared.summary.RunFault.{RunFault}
use Rattle.rtl_simulation.specs.declared.summary.RunFault.TheVariants.{NoSettling}
use Rattle.rtl_simulation.specs.Engines.{CourseView, Follows, IsCourse, IsStuck, KernelSettled}
use Rattle.rtl_simulation.proofs.Steps.{next_begun, of_inputs}
use Rattle.rtl_simulation.proofs.Touching.{before_inputs}

-- to the next moment
module _ (r : CourseView) (m time : ℕ) (changes : List Change) (k : Simulation) (limit : ℕ) (touched : Chunks) (most : ℕ) (A : KernelSettled r m k limit touched most)
    (F : Follows r m time changes k.state.now) where
  pub inputs_alone : All (λ change. Contains k.net.inputs change.0) changes
  inputs_alone =
      let all = of_inputs r.net A.of.course.is_net r.stimulus A.of.course.ports A.of.course.inputs m time changes F.gives in
      subst (λ (n : NetlistView). All (λ change. Contains n.inputs change.0) changes) (sym A.of.net) all

  pub quiet : IsTrue (is_quiet k.state)
  quiet = A.settled.2.0.settled k.state A.settled.2.1

  module _ (t : State) (ran : HasRun (core_netlist (flat k.net)) (after_inputs (core_netlist (flat k.net)) (with_changes (changes_of changes) k.state.now) k.state) t) where
    pub ready : HasNoneToRun t
    ready = HasRun-done (core_netlist (flat k.net)) (after_inputs (core_netlist (flat k.net)) (with_changes (changes_of changes) k.state.now) k.state) t ran

    pub before : t.before ≡ k.state.now
    before = before_inputs (core_netlist (flat k.net)) (with_changes (changes_of changes) k.state.now) k.state t ran

    pub begun : Begun (core r.net) (inputs_at r.stimulus) (suc m) t
    begun =
        let run = subst (λ (n : NetlistView). HasRun (core n) (after_inputs (core n) (with_changes (changes_of changes) k.state.now) k.state) t) A.of.net ran in
        next_begun r.net A.of.course.is_net r.stimulus A.of.course.ports A.of.course.inputs m time changes k.state A.deltas t F.as_many A.settled F.gives run

-- from where a moment has begun
module _ (r : CourseView) (m : ℕ) (k : Simulation) (net : k.net ≡ r.net) (begun : Begun (core r.net) (inputs_at r.stimulus) m k.state) (limit : ℕ) (limit_is : limit ≡ r.limit) where
  pub stuck : (time : ℕ) (t : State) (Tells : (before now : List ℕ) → Type 0) (fault : RunFault) → fault ≡ NoSettling time → IsUnsettled (core k.net) k.state limit t
      → Tells t.before t.now → IsStuck r m time Tells fault
  stuck time t Tells fault is unsettled tells = record {
    is = is;
    never = record {
      begun = k.state;
      is_begun = begun;
      state = t;
      unsettled = subst (λ (l : ℕ). IsUnsettled (core r.net) k.state l t) limit_is (subst (λ (n : NetlistView). IsUnsettled (core n) k.state limit t) net unsettled);
    };
    tells = tells;
  }

  pub settles : IsCourse r → (t : Simulation) (touched : Chunks) (deltas most : ℕ) → t.net ≡ k.net → HasNoneToRun t.state → touched.nets ≡ length r.net.types
      → SettlesTo (core k.net) k.state deltas t.state → deltas ≤ limit
      → (Takes (core r.net) (inputs_at r.stimulus) m deltas → IsMost (core r.net) (inputs_at r.stimulus) m most) → KernelSettled r m t limit touched most
  settles course t touched deltas most same ready nets to within most_of = record {
    of = record { course = course; net = same ∙ net; limit_is = limit_is; ready = ready; nets = nets };
    deltas = deltas;
    settled = settled;
    within = subst (λ (l : ℕ). deltas ≤ l) limit_is within;
    most_is = most_of (t.state, settled);
  }
    where
      settled : HasSettled (core r.net) (inputs_at r.stimulus) m deltas t.state
      settled = (k.state, begun, subst (λ (n : NetlistView). SettlesTo (core n) k.state deltas t.state) net to)
