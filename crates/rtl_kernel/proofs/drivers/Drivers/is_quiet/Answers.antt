use Rattle.std.proofs.Common.{sym, ap, ◌∙◌}
use Rattle.rtl_kernel.proofs.Active.{quiet_is}
use Rattle.rtl_kernel.proofs.drivers.Drivers.is_quiet.Goals as goal

pub returns : goal.returns
returns c =
    rw (← c.self.view_is)
    (c.is_empty.ensures ∙ ap (λ xs. Rattle.std.specs.Bool.◌==◌ (Rattle.std.proofs.Common.length xs) 0) c.members.ensures.value
    ∙ quiet_is c.self.inside.outcomes.items c.self.inside.active.members c.self.invariant.all_active c.self.invariant.no_other)
