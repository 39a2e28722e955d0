use Rattle.rtl_kernel.proofs.values.Values.changed.Goals as goal

pub returns-clause-sure : goal.returns-clause-sure
returns-clause-sure c told = rw (← c.self.view_is, c.members.ensures.value) (c.self.invariant.sure told)
