use Rattle.rtl_definition_examples.proofs.Bodies.{variables_of_bodies, stores_of_bodies}
use Rattle.rtl_definition_examples.proofs.body_examples.variables_of_bodies.Goals as goal

pub returns-clause-runs : goal.returns-clause-runs
returns-clause-runs c = variables_of_bodies

pub returns-clause-stores : goal.returns-clause-stores
returns-clause-stores c = stores_of_bodies
