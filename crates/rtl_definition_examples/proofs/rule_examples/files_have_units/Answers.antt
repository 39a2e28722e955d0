use Rattle.rtl_definition_examples.proofs.rules.Files.{units_are_once, formals_are_associated, contexts_bring_names}
use Rattle.rtl_definition_examples.proofs.rule_examples.files_have_units.Goals as goal

pub returns-clause-units : goal.returns-clause-units
returns-clause-units c = units_are_once

pub returns-clause-instances : goal.returns-clause-instances
returns-clause-instances c = formals_are_associated

pub returns-clause-contexts : goal.returns-clause-contexts
returns-clause-contexts c = contexts_bring_names
