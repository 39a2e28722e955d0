use Rattle.std.proofs.Common.{length, ap, refl}
use Rattle.rtl_kernel.specs.drivers.Brought.{NotedNets}
use Rattle.rtl_kernel.specs.values.TwoValues.{TwoValues}
use Rattle.rtl_kernel.proofs.Brought.{still_noted}
use Rattle.rtl_kernel.proofs.nets.Nets.begin.Goals as goal

pub invariant_of-self : goal.invariant_of-self
invariant_of-self c =
    still_noted _ _ c.self.inside.values c.begin.new.self c.self.inside.noted c.self.inside.noted c.self.invariant
    (ap (λ (v : TwoValues). v.groups) c.begin.ensures) (ap (λ (v : TwoValues). length v.current) c.begin.ensures) refl

pub returns : goal.returns
returns c =
    let nets : TwoValues → NotedNets = λ v. record { net = c.self.inside.wiring.now; values = v; noted = c.self.inside.noted.members } in
    rw (← c.self.view_is) (ap nets c.begin.ensures)
