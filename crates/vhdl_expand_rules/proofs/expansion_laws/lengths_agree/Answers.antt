use Rattle.vhdl_expand_rules.proofs.laws.Lengths.{design-fits}
use Rattle.vhdl_expand_rules.proofs.expansion_laws.lengths_agree.Goals as goal

pub returns : goal.returns
returns c = design-fits
