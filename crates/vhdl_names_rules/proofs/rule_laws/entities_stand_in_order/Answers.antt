use Rattle.vhdl_names_rules.proofs.laws.Files as laws
use Rattle.vhdl_names_rules.proofs.rule_laws.entities_stand_in_order.Goals as goal

pub returns : goal.returns
returns c = laws.entities_stand_in_order
