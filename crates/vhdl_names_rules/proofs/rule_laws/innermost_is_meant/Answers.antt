use Rattle.vhdl_names_rules.proofs.laws.Meanings as laws
use Rattle.vhdl_names_rules.proofs.rule_laws.innermost_is_meant.Goals as goal

pub returns-clause-innermost : goal.returns-clause-innermost
returns-clause-innermost c = laws.innermost_is_meant

pub returns-clause-declared : goal.returns-clause-declared
returns-clause-declared c = laws.meanings_are_declared
