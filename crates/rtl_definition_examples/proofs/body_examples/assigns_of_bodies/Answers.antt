use Rattle.rtl_definition_examples.proofs.Bodies.{assigns_of_bodies}
use Rattle.rtl_definition_examples.proofs.body_examples.assigns_of_bodies.Goals as goal

pub returns : goal.returns
returns c = assigns_of_bodies
