use Rattle.std.proofs.Common.{◌<◌, List, sym, subst, arith}
use Rattle.std.specs.Prelude.{AllPairs}
use Rattle.std.proofs.lemmas.List.{length-map}
use Rattle.rtl_stim_lines.specs.Inputs.{Input}
use Rattle.rtl_stim_lines.specs.Times.{all_nets}
use Rattle.rtl_stim_lines.specs.View.{course_view, inputs_view, schedule_view}
use Rattle.rtl_stim.specs.Moments.{IsStimulus}
use Rattle.rtl_stim.proofs.PortLemmas.{nets_rise, of_ports}
use Rattle.rtl_stim.proofs.reading.with_initial.Goals as goal
use Rattle.rtl_stim.proofs.reading.with_initial.Goals.{After-is_elaborated}

stimulus : (c : After-is_elaborated) → IsStimulus (record { inputs = inputs_view c.args.inputs; schedule = schedule_view c.args.schedule })
stimulus c =
    of_ports c.args.net.now (inputs_view c.args.inputs) (schedule_view c.args.schedule) c.is_elaborated.ensures c.requires.own c.requires.inputs
    (omega (arith, length-map c.args.schedule.courses.items course_view, c.args.schedule.courses.ok.0, c.requires.each))

pub initial_values-requires-clause-own : goal.initial_values-requires-clause-own
initial_values-requires-clause-own c = (stimulus (goal.at.initial_values-requires-clause-own c).After-is_elaborated).own_nets

pub first_nets-requires : goal.first_nets-requires
first_nets-requires c = (stimulus (goal.at.first_nets-requires c).After-is_elaborated).have_elements

pub invariant_of-result : goal.invariant_of-result
invariant_of-result c = record {
  stimulus = stimulus (goal.at.invariant_of-result c).After-is_elaborated;
  initial = c.in_ok-initial.ensures;
  in_time = c.requires.in_time;
  firsts = c.in_ok-firsts.ensures;
  rising = subst (λ (inputs : List Input). AllPairs (λ n m. n < m) (all_nets inputs)) (sym c.requires.inputs) (nets_rise c.args.net.now c.is_elaborated.ensures c.requires.own);
}
