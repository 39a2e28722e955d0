use Rattle.rtl_definition_examples.proofs.Looking.{looks_of_bodies, looks_at_no_less}
use Rattle.rtl_definition_examples.proofs.body_examples.looks_of_bodies.Goals as goal

pub returns-clause-looks : goal.returns-clause-looks
returns-clause-looks c = looks_of_bodies

pub returns-clause-no_less : goal.returns-clause-no_less
returns-clause-no_less c = looks_at_no_less
