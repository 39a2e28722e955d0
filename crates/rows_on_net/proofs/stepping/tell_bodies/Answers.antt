use Rattle.rtl_net.specs.Nets.{flat}
use Rattle.rows_on_net.proofs.Trees.{through}
use Rattle.rows_on_net.proofs.stepping.tell_bodies.Goals as goal

pub tell_stamped-requires : goal.tell_stamped-requires
tell_stamped-requires g c =
    let net = flat c.args.net.now in
    rw c.deref.ensures.value (through g.E.Exec.process g.E.Exec.types net (λ b. b.body.now) c.in-Ok.stamped.items
    (rw c.in-Ok.ensures c.requires))
