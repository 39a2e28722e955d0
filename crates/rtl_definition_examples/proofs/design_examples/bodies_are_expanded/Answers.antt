use Rattle.rtl_definition_examples.proofs.designs.Bodies.{tests, conditions, numbers, defaults}
use Rattle.rtl_definition_examples.proofs.design_examples.bodies_are_expanded.Goals as goal

pub returns-clause-tests : goal.returns-clause-tests
returns-clause-tests c = tests

pub returns-clause-conditions : goal.returns-clause-conditions
returns-clause-conditions c = conditions

pub returns-clause-numbers : goal.returns-clause-numbers
returns-clause-numbers c = numbers

pub returns-clause-defaults : goal.returns-clause-defaults
returns-clause-defaults c = defaults
