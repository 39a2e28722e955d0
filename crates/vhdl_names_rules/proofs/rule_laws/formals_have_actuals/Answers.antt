use Rattle.vhdl_names_rules.proofs.laws.Associations as laws
use Rattle.vhdl_names_rules.proofs.rule_laws.formals_have_actuals.Goals as goal

pub returns : goal.returns
returns c = laws.formals_have_actuals
