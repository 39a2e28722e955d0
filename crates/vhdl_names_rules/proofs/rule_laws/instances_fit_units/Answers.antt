use Rattle.vhdl_names_rules.proofs.laws.Instances as laws
use Rattle.vhdl_names_rules.proofs.rule_laws.instances_fit_units.Goals as goal

pub returns : goal.returns
returns c = laws.instances_fit_units
