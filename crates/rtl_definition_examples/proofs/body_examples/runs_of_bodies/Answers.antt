use Rattle.rtl_definition_examples.proofs.Bodies.{runs_of_bodies}
use Rattle.rtl_definition_examples.proofs.body_examples.runs_of_bodies.Goals as goal

pub returns : goal.returns
returns c = runs_of_bodies
