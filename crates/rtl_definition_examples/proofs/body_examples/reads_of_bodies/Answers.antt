use Rattle.rtl_definition_examples.proofs.Bodies.{reads_of_bodies}
use Rattle.rtl_definition_examples.proofs.body_examples.reads_of_bodies.Goals as goal

pub returns : goal.returns
returns c = reads_of_bodies
