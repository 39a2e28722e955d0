use Rattle.std.proofs.Common.{ap, ◌∙◌}
use Rattle.rtl_net.specs.Nets.{flat}
use Rattle.rtl_kernel.specs.values.TwoValues.{TwoValues}
use Rattle.rtl_kernel.proofs.Inputs.{inputs_there}
use Rattle.rtl_kernel.proofs.Kept as kept
use Rattle.rtl_kernel.proofs.kernel.Kernel.change.Goals as goal

pub give-requires : goal.give-requires
give-requires g c =
    inputs_there (flat c.self.inside.nets.net) c.self.invariant.of_net.in_range c.args.changes.now (rw (← c.self.view_is) at c.requires.inputs)

pub resume-requires-clause-processes : goal.resume-requires-clause-processes
resume-requires-clause-processes g c =
    kept.wakers_there c.self.invariant _ (ap (λ (v : TwoValues). v.groups) c.values.ensures.value ∙ c.give.ensures.groups_stay)

pub invariant_of-self : goal.invariant_of-self
invariant_of-self g c =
    kept.kept_given c.self.invariant c.args.changes.now (rw (← c.self.view_is) at c.requires.inputs) c.give.new.self c.give.ensures c.resume.new.self
    c.resume.ensures.as_many (rw (c.values.ensures.value) at c.resume.ensures.woken) (rw (← c.self.view_is) at c.requires.quiet)

pub returns : goal.returns
returns g c = rw (← c.self.view_is) (record {
  net = c.give.ensures.net_stays;
  state = kept.is_given c.self.invariant c.args.changes.now (rw (← c.self.view_is) at c.requires.inputs) c.give.new.self c.give.ensures c.resume.new.self
      c.resume.ensures.as_many (rw (c.values.ensures.value) at c.resume.ensures.woken);
})
