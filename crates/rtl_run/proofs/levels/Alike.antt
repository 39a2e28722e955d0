-- What the run of an accepted netlist writes is one text.
use Rattle.std.proofs.Common.{◌≡◌, ℕ, ◌≤◌, List, length, Ok, inl, inr, sym, ap, subst, ◌∙◌}
use Rattle.rtl_model.specs.simulation.Laws.{OneBound, OneMachineRun}
use Rattle.rtl_net.specs.Nets.{NetlistView, SignalView}
use Rattle.rtl_net.specs.Elaborated.{IsNet}
use Rattle.rtl_net.specs.Laws.{EachNetMeetsTheLaws}
use Rattle.rtl_net.specs.Core.{core}
use Rattle.byte_streams.specs.Written.{SinkState, TakesAll}
use Rattle.rtl_stim_lines.specs.Reading.{Schedule, schedule_of}
use Rattle.rtl_stim.specs.Ports.{inputs_of}
use Rattle.rtl_stim.specs.Stimuli.{StimulusView, moments, inputs_at}
use Rattle.rtl_simulation.specs.declared.summary.Summary.{Summary}
use Rattle.rtl_run.specs.Traced.{machine_text, IsTrace, Traces}
use Rattle.rtl_run.specs.Admitted.{IsAdmitted}
use Rattle.rtl_run.specs.Answered.{Admits, RunsNet}
use Rattle.rtl_run.specs.declared.level_summary.LevelSummary.{LevelSummary}
use Rattle.rtl_run.specs.levels.Answered.{RunsLevels, TracesLevels}
use Rattle.rtl_run.specs.levels.Laws.{EachTraceIsTheOne, EachRunIsWrittenAlike, WriteAlike}

pub each_trace_is_the_one : EachNetMeetsTheLaws → OneMachineRun → EachTraceIsTheOne
each_trace_is_the_one meets one net names s is_net accepted bound other_bound text other T U =
    let all = one (core net) (meets net is_net).elaborated accepted (inputs_at s) in
    T.is ∙ ap (λ (run : ℕ → List ℕ). machine_text net names s run) (all.2 T.run T.synchronous.machine ∙ sym (all.2 U.run U.synchronous.machine)) ∙ sym U.is

-- ---- both commands

-- a text says one stimulus of a netlist
same_stimulus : (net : NetlistView) (text : List ℕ) (a b : ℕ) (s t : StimulusView) → IsAdmitted net text a s → IsAdmitted net text b t → s ≡ t
same_stimulus net text a b s t A B = λ i. record { inputs = (A.says.0 ∙ sym B.says.0) i; schedule = same_schedule i }
  where
    same_ok : (x y : Schedule) → schedule_of (inputs_of net) text ≡ Ok x → schedule_of (inputs_of net) text ≡ Ok y → x ≡ y
    same_ok x y p q = cc

    same_schedule : s.schedule ≡ t.schedule
    same_schedule = same_ok s.schedule t.schedule A.says.1 B.says.1

module _ (one : EachTraceIsTheOne) (bounds : OneBound) (net : NetlistView) (names : List SignalView) (text : List ℕ) (is_net : IsNet net) (old left right : SinkState) (summary : Summary) (levels : LevelSummary) where
  both : (A : Admits net text (λ s bound. Traces net names s bound old left (Ok summary))) (B : Admits net text (λ s bound. TracesLevels net names s bound old right (Ok levels)))
      → WriteAlike old left right summary levels
  both A B = record {
    text = A.done.all.text;
    one_took = A.done.all.taken;
    other_took = subst (λ (t : List ℕ). TakesAll old right t) (sym same_text) B.done.all.taken;
    count = A.done.all.count_is ∙ ap (λ (s : StimulusView). length (moments s)) same ∙ sym B.done.all.count_is;
    within = subst (λ (bound : ℕ). summary.most_deltas ≤ bound) (same_bound ∙ sym B.done.bound_is) A.done.within;
  }
    where
      same : A.stimulus ≡ B.stimulus
      same = same_stimulus net text A.bound B.bound A.stimulus B.stimulus A.admitted B.admitted

      same_text : A.done.all.text ≡ B.done.all.text
      same_text =
          one net names A.stimulus is_net A.admitted.accepted.accepted A.bound B.bound A.done.all.text B.done.all.text A.done.all.trace
          (subst (λ (s : StimulusView). IsTrace net names s B.bound B.done.all.text) (sym same) B.done.all.trace)

      same_bound : A.bound ≡ B.bound
      same_bound =
          let yes = A.admitted.accepted in
          let also = B.admitted.accepted in
          (bounds (core net) yes.greatest also.greatest A.bound B.bound yes.accepted yes.is_bound also.is_bound).1

  pub alike : RunsNet net names text old left (Ok summary) → RunsLevels net names text old right (Ok levels) → WriteAlike old left right summary levels
  alike (inl A) (inl B) = both A B
  alike (inl A) (inr R) = let is = R.is in cc
  alike (inr R) either = let is = R.is in cc

pub each_run_is_written_alike : EachTraceIsTheOne → OneBound → EachRunIsWrittenAlike
each_run_is_written_alike one reports net names text is_net old left right summary levels = alike one reports net names text is_net old left right summary levels
