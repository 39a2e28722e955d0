use Rattle.rtl_definition_examples.proofs.Bodies.{kinds_of_bodies, kinds_of_resets}
use Rattle.rtl_definition_examples.proofs.body_examples.kinds_of_bodies.Goals as goal

pub returns-clause-kinds : goal.returns-clause-kinds
returns-clause-kinds c = kinds_of_bodies

pub returns-clause-resets : goal.returns-clause-resets
returns-clause-resets c = kinds_of_resets
