-- The oscillator, and the process that its sibling's output resumes.
use Rattle.std.proofs.Common.{◌≡◌, refl, sym, ap, ◌∙◌, subst}
use Rattle.rtl_model.specs.nets.CoreNetlist.{core_netlist}
use Rattle.rtl_model.specs.simulation.Cycle.{State, start_state}
use Rattle.rtl_model.specs.simulation.Moments.{HasSettled, IsUnsettled, Begun}
use Rattle.rtl_definition_examples.specs.Rows.{oscillator, no_inputs, OscillatorSettles, sibling, a_rises, SiblingWakes}
use Rattle.rtl_model.proofs.simulation.Order.{finished_done, HasRun-finished}
use Rattle.rtl_model.proofs.simulation.Deltas.{after, HasDeltas-after}
use Rattle.rtl_model.proofs.simulation.Orders.{every_order_is_one}
use Rattle.rtl_definition_examples.proofs.Computing.{first_cycle, next_cycle, starts_in, goes_on, begins_next, unsettled_by}

pub oscillator_settles : OscillatorSettles
oscillator_settles = record {
  from_u = (after (oscillator 0) 1 (first_cycle (oscillator 0) (no_inputs 0)), starts_in (oscillator 0) no_inputs 1 refl);
  from_0 = λ s run. (
    after (oscillator 2) 9 (first_cycle (oscillator 2) (no_inputs 0)),
    subst (λ (u : State). IsUnsettled (oscillator 2) u 9 (after (oscillator 2) 9 (first_cycle (oscillator 2) (no_inputs 0)))) (sym (HasRun-finished (oscillator 2) _ s run))
        (unsettled_by (oscillator 2) (first_cycle (oscillator 2) (no_inputs 0)) 9 (finished_done (oscillator 2) (start_state (oscillator 2) (no_inputs 0))) refl),
  );
}

-- the start settles after two delta cycles
start : State
start = after (core_netlist sibling) 2 (first_cycle (core_netlist sibling) (a_rises 0))

start_settled : HasSettled (core_netlist sibling) a_rises 0 2 start
unfolding start
start_settled = starts_in (core_netlist sibling) a_rises 2 refl

changed : State
changed = next_cycle (core_netlist sibling) (a_rises 1) start

change_settled : HasSettled (core_netlist sibling) a_rises 1 2 (after (core_netlist sibling) 2 changed)
unfolding changed start
change_settled = goes_on (core_netlist sibling) a_rises 0 2 start 2 start_settled refl

one_event : (after (core_netlist sibling) 2 changed).now ≡ (after (core_netlist sibling) 1 changed).now
unfolding changed start
one_event = refl

changed_is : (s : State) → Begun (core_netlist sibling) a_rises 1 s → s ≡ changed
unfolding changed start
changed_is s begun = (every_order_is_one (core_netlist sibling) a_rises 1).0 s changed begun (begins_next (core_netlist sibling) a_rises 0 2 start start_settled)

pub sibling_wakes : SiblingWakes
sibling_wakes = record {
  takes_two = (after (core_netlist sibling) 2 changed, change_settled);
  second_has_no_event = λ s mid t begun one two.
      let e = changed_is s begun in
      let a : mid ≡ after (core_netlist sibling) 1 changed = HasDeltas-after (core_netlist sibling) 1 s mid one ∙ ap (after (core_netlist sibling) 1) e in
      let b : t ≡ after (core_netlist sibling) 2 changed = HasDeltas-after (core_netlist sibling) 2 s t two ∙ ap (after (core_netlist sibling) 2) e in
      ap (λ (u : State). u.now) b ∙ one_event ∙ sym (ap (λ (u : State). u.now) a);
}
