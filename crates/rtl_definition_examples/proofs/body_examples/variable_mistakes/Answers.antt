use Rattle.rtl_definition_examples.proofs.Variables.{variable_would_be_kept, stored_would_pass}
use Rattle.rtl_definition_examples.proofs.body_examples.variable_mistakes.Goals as goal

pub returns-clause-kept : goal.returns-clause-kept
returns-clause-kept c = variable_would_be_kept

pub returns-clause-stored : goal.returns-clause-stored
returns-clause-stored c = stored_would_pass
