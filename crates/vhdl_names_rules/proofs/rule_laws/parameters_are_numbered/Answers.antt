use Rattle.vhdl_names_rules.proofs.laws.Parameters as laws
use Rattle.vhdl_names_rules.proofs.rule_laws.parameters_are_numbered.Goals as goal

pub returns-clause-loops : goal.returns-clause-loops
returns-clause-loops c = laws.loops_number_parameters

pub returns-clause-generates : goal.returns-clause-generates
returns-clause-generates c = laws.generates_number_parameters
