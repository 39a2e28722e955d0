use Rattle.std.proofs.Common.{ap, ◌∙◌, not}
use Rattle.rtl_net.specs.Bodies.{statements_of}
use Rattle.rtl_model.specs.bodies.Leaves.{leaves}
use Rattle.rtl_body_facts.proofs.Found.{none_stands}
use Rattle.rtl_body_facts.proofs.search.looks_at_nothing.Goals as goal

pub returns : goal.returns
returns c = ap not c.in_body.ensures ∙ none_stands (leaves (statements_of c.args.statements.now))
