use Rattle.vhdl_expand_rules.proofs.laws.Statements.{each-body-fits}
use Rattle.vhdl_expand_rules.proofs.expansion_laws.bodies_fit.Goals as goal

pub returns : goal.returns
returns c = each-body-fits
