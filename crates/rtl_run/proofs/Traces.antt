-- What a simulation writes, and what a watch is told of it, of an accepted netlist under a stimulus without a race.
use Rattle.std.proofs.Common.{◌≡◌, ℕ, pred, ◌≤◌, List, length, refl, sym, ap, subst, ◌∙◌}
use Rattle.rtl_model.specs.simulation.Moments.{HasSettled, IsMost}
use Rattle.rtl_model.specs.simulation.Laws.{OneGreatestCount}
use Rattle.rtl_net.specs.Nets.{NetlistView, SignalView, flat}
use Rattle.rtl_net.specs.Elaborated.{IsNet}
use Rattle.rtl_net.specs.Core.{core}
use Rattle.byte_streams.specs.Stands.{Stand}
use Rattle.byte_streams.specs.Written.{SinkState, TakesAll}
use Rattle.rtl_model.proofs.nets.Connected.{connected_is_elaborated}
use Rattle.rtl_stim.specs.Stimuli.{StimulusView, moments, inputs_at}
use Rattle.rtl_stim.proofs.Next.{each_begins_at_zero}
use Rattle.rtl_simulation.specs.declared.summary.RunFault.{RunFault}
use Rattle.rtl_simulation.specs.declared.summary.RunFault.TheVariants.{NoSettling, Memory, Output}
use Rattle.rtl_simulation.specs.declared.summary.Summary.{Summary}
use Rattle.rtl_run.specs.Faults.{of_run}
use Rattle.rtl_run.specs.Synchronous.{SaysYes, IsSynchronous}
use Rattle.rtl_run.specs.Traced.{machine_text, IsTrace, TracesMoments, TracesAll, TracesBeginning, Leaves}
use Rattle.rtl_run.specs.Watched.{AreStandsOf, IsToldRun, IsToldRunFirst}
use Rattle.rtl_simulation.specs.Answered.{Fails, IsWhole, LeavesBeginning, WritesAll}
use Rattle.rtl_simulation.specs.Engines.{ComesTo}
use Rattle.rtl_simulation.specs.Simulated.{NeverSettles}
use Rattle.rtl_simulation.specs.Watched.{AreStands, IsToldAll, IsToldFirst, WasTold}
use Rattle.rtl_run.proofs.Texts.{are_of_run, whole_is, beginning_is}

module _ (net : NetlistView) (s : StimulusView) (limit : ℕ) (run : ℕ → List ℕ) (synchronous : IsSynchronous (core net) limit (inputs_at s) run) where
  -- each moment settles
  pub never_settles : (m : ℕ) → NeverSettles net s limit m → ⊥
  never_settles m never =
      let settles = synchronous.settles m never.begun never.is_begun in
      never.unsettled.never settles.0 settles.2 settles.1

  -- in the valuation of the run
  pub comes_to_run : (m : ℕ) → ComesTo (record { net = net; stimulus = s; limit = limit }) m (run m)
  comes_to_run m =
      let begun = synchronous.comes m in
      let settles = synchronous.settles m begun.0 begun.1 in
      let goes_on = settles.1.goes_on in
      let has : HasSettled (core net) (inputs_at s) m settles.0 goes_on.0 = (begun.0, begun.1, (settles.1, goes_on.1)) in
      record { deltas = settles.0; settles = record { state = goes_on.0; settled = has; values = synchronous.is_machine m settles.0 goes_on.0 has }; within = settles.2 }

  pub is_of_run : (m : ℕ) (values : List ℕ) → ComesTo (record { net = net; stimulus = s; limit = limit }) m values → values ≡ run m
  is_of_run m values C = sym C.settles.values ∙ synchronous.is_machine m C.deltas C.settles.state C.settles.settled

  -- ---- what went out

  module _ (names : List SignalView) (old new : SinkState) where
    is_trace : IsTrace net names s limit (machine_text net names s run)
    is_trace = record { run = run; synchronous = synchronous; is = refl }

    beginning : LeavesBeginning net names s limit old new → TracesBeginning net names s limit old new
    beginning leaves = record {
      text = machine_text net names s run;
      trace = is_trace;
      taken = beginning_is net names s run leaves.settled leaves.text old new (each_begins_at_zero s).0 leaves.are.there
          (are_of_run net s limit run leaves.settled synchronous.is_machine leaves.are) leaves.is leaves.taken;
    }

    pub leaves : (fault : RunFault) → Fails net names s limit old new fault → Leaves net names s limit old new (of_run fault)
    leaves (NoSettling time) stops = absurd (never_settles (length stops.settled) stops.never)
    leaves Memory (left, intact) = (beginning left, intact)
    leaves Output (left, failed) = (beginning left, failed)

    pub is_another : (fault : RunFault) → Fails net names s limit old new fault → (time : ℕ) → fault ≡ NoSettling time → ⊥
    is_another fault fails time is =
        let stops = subst (λ (f : RunFault). Fails net names s limit old new f) is fails in
        never_settles (length stops.settled) stops.never

    pub traces_moments : (count : ℕ) → WritesAll net names s limit old new count → TracesMoments net names s limit old new count
    traces_moments count all =
        let text = whole_is net names s run all.settled (each_begins_at_zero s).0 all.all (are_of_run net s limit run all.settled synchronous.is_machine all.are) in
        record {
          text = machine_text net names s run;
          trace = is_trace;
          taken = subst (λ (t : List ℕ). TakesAll old new t) text (all.text.whole all.intact).1;
          intact = all.intact;
          count_is = all.count_is ∙ all.all;
        }

    pub whole : (summary : Summary) → IsNet net → OneGreatestCount → SaysYes (core net) limit → IsWhole net names s limit old new summary → TracesAll net names s limit old new summary
    whole summary is_net one said is_whole =
        let moments_are = is_whole.all.count_is ∙ is_whole.all.all in
        let most = subst (λ (k : ℕ). IsMost (core net) (inputs_at s) k summary.most_deltas) (ap pred moments_are) is_whole.most in
        let greatest = one (core net) said.greatest limit (connected_is_elaborated (flat net) is_net.in_range is_net.connected) said.accepted said.is_bound (inputs_at s) (pred (length (moments s))) in
        let same : summary.most_deltas ≡ greatest.0 = greatest.3 summary.most_deltas most in
        record { all = traces_moments summary.moments is_whole.all; most = most; within = subst (λ (k : ℕ). k ≤ limit) (sym same) greatest.2 }

  -- ---- what the watch was told

  module _ (Told : List Stand → Type 0) where
    stands_of : (stands : List Stand) → AreStands net s stands → AreStandsOf s run stands
    stands_of stands are m x is = let from = are m x is in (sym from.values ∙ synchronous.is_machine m from.deltas from.state from.settled, from.until)

    pub told_run : IsToldAll net s Told → IsToldRun net s limit Told
    told_run all = record { run = run; synchronous = synchronous; stands = all.stands; are = stands_of all.stands all.are; all = all.all; told = all.told }

    told_some : IsToldFirst net s Told → IsToldRunFirst net s limit Told
    told_some first = record { run = run; synchronous = synchronous; stands = first.stands; are = stands_of first.stands first.are; there = first.there; told = first.told }

    pub told_first : (Stuck : List Stand → (before now : List ℕ) → (time : ℕ) → Type 0) (fault : RunFault) → WasTold net s limit Told Stuck fault → IsToldRunFirst net s limit Told
    told_first Stuck (NoSettling time) told = absurd (never_settles (length told.stands) told.never)
    told_first Stuck Memory told = told_some told
    told_first Stuck Output told = told_some told
