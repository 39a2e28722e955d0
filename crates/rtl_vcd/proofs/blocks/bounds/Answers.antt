use Rattle.std.proofs.Common.{◌≤◌, All, subst}
use Rattle.std.proofs.lemmas.List.{take_all}
use Rattle.rtl_vcd.proofs.Hulls.{one_net_more}
use Rattle.rtl_vcd.proofs.blocks.bounds.Goals as goal

pub loop-net-preserved : goal.loop-net-preserved
loop-net-preserved c =
    let ns = c.args.nets.now in
    let least = c.loop-net.least in
    let greatest = c.loop-net.greatest in
    let I = c.loop-net.invariant in
    rw (c.min-least.ensures, c.max-greatest.ensures) (one_net_more ns c.loop-net.net-index least greatest c.loop-net-test.true I.0 I.1 I.2)

pub returns-clause-between : goal.returns-clause-between
returns-clause-between c =
    subst (All (λ n. (c.loop-net.least ≤ n) × (n ≤ c.loop-net.greatest))) (take_all c.loop-net.net-index c.args.nets.now c.loop-net-test.false)
    c.loop-net.invariant.2
