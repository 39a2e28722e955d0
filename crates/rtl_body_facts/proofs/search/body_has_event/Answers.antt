use Rattle.std.proofs.Common.{sym, ap, ◌∙◌}
use Rattle.rtl_net.specs.Bodies.{statements_of}
use Rattle.rtl_model.specs.bodies.Leaves.{leaves, event_of}
use Rattle.rtl_model.proofs.bodies.Leaves.{leaves_tell}
use Rattle.rtl_body_facts.specs.Reading.{some}
use Rattle.rtl_body_facts.proofs.Found.{some_in}
use Rattle.rtl_body_facts.proofs.search.body_has_event.Goals as goal

pub returns : goal.returns
returns c = let b = statements_of c.args.statements.now in c.in_body.ensures ∙ some_in event_of (leaves b) ∙ ap some (sym (leaves_tell.events_are b))
