use Rattle.std.proofs.Common.{sym, ◌∙◌}
use Rattle.rtl_levels.proofs.Advancing.{have_readers}
use Rattle.rtl_levels.proofs.Machines as machines
use Rattle.rtl_levels.proofs.Stepping.{clocked_below}
use Rattle.rtl_net_groups.proofs.Touching.{touches_then}
use Rattle.rtl_levels.proofs.machine.Machine.step.Goals as goal

pub take_inputs-requires-clause-there : goal.take_inputs-requires-clause-there
take_inputs-requires-clause-there g c =
    let K = c.self.invariant.1 in
    machines.changes_there _ c.self.invariant.0.in_range c.args.changes.now (rw (← c.self.view_is) at c.requires.inputs) c.self.inside.state.values.items K.state_is.in_range.each_net

pub take_inputs-requires-clause-have_readers : goal.take_inputs-requires-clause-have_readers
take_inputs-requires-clause-have_readers g c =
    let K = c.self.invariant.1 in
    have_readers _ _ K.planned _ (machines.forgotten _ c.self.invariant.0.in_range _ _ _ _ _ K c.args.changes.now (rw (← c.self.view_is) at c.requires.inputs) _ c.forget.ensures.nets)

pub take_inputs-requires-clause-each_clocked : goal.take_inputs-requires-clause-each_clocked
take_inputs-requires-clause-each_clocked g c = let K = c.self.invariant.1 in K.planned.each_clocked ∙ sym K.state_is.in_range.each_net

pub take_inputs-requires-clause-clocked : goal.take_inputs-requires-clause-clocked
take_inputs-requires-clause-clocked g c = let K = c.self.invariant.1 in clocked_below _ _ K.planned _ K.each_process

pub come_to_rest-requires-clause-may : goal.come_to_rest-requires-clause-may
come_to_rest-requires-clause-may g c = c.self.invariant.0

pub come_to_rest-requires-clause-planned : goal.come_to_rest-requires-clause-planned
come_to_rest-requires-clause-planned g c = c.self.invariant.1.planned

pub come_to_rest-requires-clause-sensitive : goal.come_to_rest-requires-clause-sensitive
come_to_rest-requires-clause-sensitive g c =
    machines.sensitive_now _ c.self.invariant.0.in_range _ _ _ _ _ c.self.invariant.1 c.args.changes.now (rw (← c.self.view_is) at c.requires.inputs) _ c.forget.ensures.nets
    c.take_inputs.new.state c.take_inputs.ensures.values c.take_inputs.ensures.advances c.take_inputs.new.woken.items c.take_inputs.ensures.woken

pub come_to_rest-requires-clause-each_process : goal.come_to_rest-requires-clause-each_process
come_to_rest-requires-clause-each_process g c = c.take_inputs.ensures.woken.as_many ∙ c.self.invariant.1.each_process

pub come_to_rest-requires-clause-each_ran : goal.come_to_rest-requires-clause-each_ran
come_to_rest-requires-clause-each_ran g c = c.self.invariant.1.each_ran ∙ sym c.take_inputs.ensures.woken.as_many

pub come_to_rest-requires-clause-none_ran : goal.come_to_rest-requires-clause-none_ran
come_to_rest-requires-clause-none_ran g c = c.self.invariant.1.none_ran

pub come_to_rest-requires-clause-before : goal.come_to_rest-requires-clause-before
come_to_rest-requires-clause-before g c = rw (c.deref.ensures.value) c.self.invariant.1.at_rest.before_in_range

pub come_to_rest-requires-clause-state : goal.come_to_rest-requires-clause-state
come_to_rest-requires-clause-state g c =
    machines.state_now _ c.self.invariant.0.in_range _ _ _ _ _ c.self.invariant.1 c.args.changes.now (rw (← c.self.view_is) at c.requires.inputs) _ c.forget.ensures.nets
    c.take_inputs.new.state c.take_inputs.ensures.values c.take_inputs.ensures.advances

pub come_to_rest-requires-clause-settled : goal.come_to_rest-requires-clause-settled
come_to_rest-requires-clause-settled g c =
    machines.settled_now _ c.self.invariant.0.in_range _ _ _ _ _ c.self.invariant.1 c.args.changes.now (rw (← c.self.view_is) at c.requires.inputs) _ c.forget.ensures.nets
    c.take_inputs.new.state c.take_inputs.ensures.values c.take_inputs.ensures.advances

pub set_inputs-requires : goal.set_inputs-requires
set_inputs-requires g c =
    let K = c.self.invariant.1 in
    machines.changes_there _ c.self.invariant.0.in_range c.args.changes.now (rw (← c.self.view_is) at c.requires.inputs) c.self.inside.before.items K.at_rest.before_in_range.each_net

pub invariant_of-self : goal.invariant_of-self
invariant_of-self g c =
    let K = c.self.invariant.1 in
    let rest = c.come_to_rest.ensures in (
      rest.may,
      machines.kept _ c.self.invariant.0.in_range _ _ _ _ _ K c.args.changes.now (rw (← c.self.view_is) at c.requires.inputs) _ c.forget.ensures.nets
          c.take_inputs.new.state c.take_inputs.ensures.values c.take_inputs.ensures.advances c.take_inputs.new.woken.items c.take_inputs.ensures.woken
          (rw (← c.self.view_is) at c.requires.raceless) c.come_to_rest.new.state (rw (c.deref.ensures.value) at rest.rest)
          c.set_inputs.new.values.items c.come_to_rest.new.woken.items c.come_to_rest.new.ran.items rest.state c.set_inputs.ensures
          (rest.each_process ∙ c.take_inputs.ensures.woken.as_many ∙ K.each_process)
          (rest.each_ran ∙ K.each_ran ∙ sym c.take_inputs.ensures.woken.as_many ∙ sym rest.each_process)
          rest.none_dirty rest.none_woken rest.none_ran,
    )

pub returns-clause-step : goal.returns-clause-step
returns-clause-step g c =
    rw (← c.self.view_is)
    (machines.is_step _ c.self.invariant.0.in_range _ _ _ _ _ c.self.invariant.1 c.args.changes.now (rw (← c.self.view_is) at c.requires.inputs) _ c.forget.ensures.nets
    c.take_inputs.new.state c.take_inputs.ensures.values c.take_inputs.ensures.advances c.take_inputs.new.woken.items c.take_inputs.ensures.woken
    (rw (← c.self.view_is) at c.requires.raceless) c.come_to_rest.new.state (rw (c.deref.ensures.value) at c.come_to_rest.ensures.rest))

pub returns-clause-touched : goal.returns-clause-touched
returns-clause-touched g c =
    let both = touches_then _ _ _ _ _ _ c.take_inputs.ensures.advances.touched c.come_to_rest.ensures.touched in
    rw (← c.self.view_is) both.others
