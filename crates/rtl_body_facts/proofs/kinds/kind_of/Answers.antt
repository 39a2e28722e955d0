use Rattle.std.proofs.Common.{sym, ◌∙◌}
use Rattle.rtl_net.specs.Bodies.{statements_of}
use Rattle.rtl_model.specs.bodies.Reads.{events}
use Rattle.rtl_model.specs.bodies.Kinds as m
use Rattle.rtl_body_facts.proofs.Timings.{kind_some, kind_mixed, kind_combinational}
use Rattle.rtl_body_facts.proofs.kinds.kind_of.Goals as goal

pub returns-in-Some : goal.returns-in-Some
returns-in-Some c = let b = statements_of c.args.body.now in kind_some (m.clocking c.args.wide c.args.inputs.now b) c.in-Some.clocking (events b) c.in-Some.ensures

pub returns-then-body_has_event : goal.returns-then-body_has_event
returns-then-body_has_event c =
    let b = statements_of c.args.body.now in kind_mixed (m.clocking c.args.wide c.args.inputs.now b) (events b) c.in-None.ensures (sym c.body_has_event.ensures ∙ c.if-body_has_event.true)

pub returns-else-body_has_event : goal.returns-else-body_has_event
returns-else-body_has_event c =
    let b = statements_of c.args.body.now in kind_combinational (m.clocking c.args.wide c.args.inputs.now b) (events b) c.in-None.ensures (sym c.body_has_event.ensures ∙ c.if-body_has_event.false)
