use Rattle.rtl_definition_examples.proofs.rules.Declarations.{declarations_declare, values_are_fixed, choices_cover}
use Rattle.rtl_definition_examples.proofs.rule_examples.declarations_declare.Goals as goal

pub returns-clause-declarations : goal.returns-clause-declarations
returns-clause-declarations c = declarations_declare

pub returns-clause-values : goal.returns-clause-values
returns-clause-values c = values_are_fixed

pub returns-clause-choices : goal.returns-clause-choices
returns-clause-choices c = choices_cover
