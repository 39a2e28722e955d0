use Rattle.vhdl_elab_rules.proofs.laws.Names.{each-has-names}
use Rattle.vhdl_elab_rules.proofs.elaboration_laws.parts_have_names.Goals as goal

pub returns : goal.returns
returns c = each-has-names
