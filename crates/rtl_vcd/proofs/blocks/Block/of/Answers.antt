use Rattle.std.proofs.Common.{◌≤◌, All, Contains, refl, subst}
use Rattle.rtl_net.specs.Nets.{signal_view}
use Rattle.rtl_vcd.proofs.Hulls.{one_name}
use Rattle.rtl_vcd.proofs.blocks.Block.of.Goals as goal

pub returns-clause-block : goal.returns-clause-block
returns-clause-block c nets shown =
    let bounds = c.bounds-least.result in
    let is = c.deref.ensures in
    one_name nets (signal_view c.args.signal.now) _ shown refl
    (subst (λ ns. Contains ns bounds.0) is c.bounds-least.ensures.least) (subst (λ ns. Contains ns bounds.1) is c.bounds-least.ensures.greatest)
    (subst (All (λ n. (bounds.0 ≤ n) × (n ≤ bounds.1))) is c.bounds-least.ensures.between)
