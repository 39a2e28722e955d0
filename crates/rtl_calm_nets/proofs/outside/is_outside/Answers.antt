use Rattle.std.proofs.Common.{refl, false, get_or}
use Rattle.rtl_net.specs.Core.{core}
use Rattle.rtl_calm_nets.proofs.Judging.{outside_if, inside_if}
use Rattle.rtl_calm_nets.proofs.Ranges.{start_net}
use Rattle.rtl_calm_nets.proofs.outside.is_outside.Goals as goal

pub returns-then-not-is_driven : goal.returns-then-not-is_driven
returns-then-not-is_driven c =
    let net = c.args.net.now in
    outside_if (core net) (c.nets_meet_the_laws.ensures net c.is_elaborated.ensures).elaborated.wiring c.args.clocks.now c.requires.clocks c.args.number (start_net net c.is_elaborated.ensures c.args.number c.requires.there)
    c.is_driven.result c.is_marked.result c.is_driven.ensures c.is_marked.ensures c.if-not-is_driven.true

pub returns-else-not-is_driven : goal.returns-else-not-is_driven
returns-else-not-is_driven c =
    let net = c.args.net.now in
    inside_if (core net) (c.nets_meet_the_laws.ensures net c.is_elaborated.ensures).elaborated.wiring c.args.clocks.now c.requires.clocks c.args.number (start_net net c.is_elaborated.ensures c.args.number c.requires.there)
    c.is_driven.result (get_or c.args.clocks.now c.args.number false) c.is_driven.ensures refl c.if-not-is_driven.false
