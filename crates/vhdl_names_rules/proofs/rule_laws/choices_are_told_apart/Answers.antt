use Rattle.vhdl_names_rules.proofs.laws.Choices.{choices_differ, others_is_last}
use Rattle.vhdl_names_rules.proofs.rule_laws.choices_are_told_apart.Goals as goal

pub returns-clause-differ : goal.returns-clause-differ
returns-clause-differ c = choices_differ

pub returns-clause-others : goal.returns-clause-others
returns-clause-others c = others_is_last
