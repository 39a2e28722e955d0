use Rattle.vhdl_names_rules.proofs.laws.Targets as laws
use Rattle.vhdl_names_rules.proofs.rule_laws.no_in_port_is_driven.Goals as goal

pub returns-clause-targets : goal.returns-clause-targets
returns-clause-targets c = laws.targets_are_driven

pub returns-clause-actuals : goal.returns-clause-actuals
returns-clause-actuals c = laws.actuals_are_driven
