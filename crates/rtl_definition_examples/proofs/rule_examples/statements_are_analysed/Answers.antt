use Rattle.rtl_definition_examples.proofs.rules.Statements.{targets_are_signals, processes_are_regions, turns_have_parameters, conditions_become_ifs}
use Rattle.rtl_definition_examples.proofs.rule_examples.statements_are_analysed.Goals as goal

pub returns-clause-targets : goal.returns-clause-targets
returns-clause-targets c = targets_are_signals

pub returns-clause-processes : goal.returns-clause-processes
returns-clause-processes c = processes_are_regions

pub returns-clause-turns : goal.returns-clause-turns
returns-clause-turns c = turns_have_parameters

pub returns-clause-conditions : goal.returns-clause-conditions
returns-clause-conditions c = conditions_become_ifs
