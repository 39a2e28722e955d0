use Rattle.std.proofs.Common.{subst}
use Rattle.rtl_net.specs.Core.{core}
use Rattle.rtl_calm_nets.specs.NetOrigins.{IsResetTest}
use Rattle.rtl_calm_nets.proofs.Judging.{judged_calm, judged_clock}
use Rattle.rtl_calm_nets.proofs.unsteady.is_unsteady.Goals as goal

pub returns-then-not-is_marked : goal.returns-then-not-is_marked
returns-then-not-is_marked c =
    let net = c.args.net.now in
    let is = subst (IsResetTest (core net) c.args.process) c.in-Some.is c.reset_of.ensures in
    judged_calm (core net) c.args.clocks.now c.args.calm.now c.requires.clocks c.requires.calm c.requires.wide c.args.process c.in-Some.reset is
    c.is_marked.result c.is_marked-then-not-is_marked.result c.place_of.result c.is_marked.ensures c.is_marked-then-not-is_marked.ensures c.place_of.ensures c.if-not-is_marked.true

pub returns-else-not-is_marked : goal.returns-else-not-is_marked
returns-else-not-is_marked c =
    let net = c.args.net.now in
    let is = subst (IsResetTest (core net) c.args.process) c.in-Some.is c.reset_of.ensures in
    judged_clock (core net) c.args.clocks.now c.args.calm.now c.requires.clocks c.requires.calm c.requires.wide c.args.process c.in-Some.reset is c.is_marked.result c.is_marked.ensures c.if-not-is_marked.false
