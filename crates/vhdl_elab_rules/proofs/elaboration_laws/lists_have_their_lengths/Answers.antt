use Rattle.vhdl_elab_rules.proofs.laws.Shape.{each-has-shape}
use Rattle.vhdl_elab_rules.proofs.elaboration_laws.lists_have_their_lengths.Goals as goal

pub returns : goal.returns
returns c = each-has-shape
