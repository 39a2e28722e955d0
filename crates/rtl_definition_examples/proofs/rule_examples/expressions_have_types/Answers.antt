use Rattle.rtl_definition_examples.proofs.rules.Expressions.{operators_have_types, names_have_meanings, edges_ask_for_signals, literals_have_values}
use Rattle.rtl_definition_examples.proofs.rule_examples.expressions_have_types.Goals as goal

pub returns-clause-operators : goal.returns-clause-operators
returns-clause-operators c = operators_have_types

pub returns-clause-names : goal.returns-clause-names
returns-clause-names c = names_have_meanings

pub returns-clause-edges : goal.returns-clause-edges
returns-clause-edges c = edges_ask_for_signals

pub returns-clause-literals : goal.returns-clause-literals
returns-clause-literals c = literals_have_values
