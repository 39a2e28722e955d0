use Rattle.vhdl_elab_rules.proofs.laws.Nets.{nets-are-as-said}
use Rattle.vhdl_elab_rules.proofs.elaboration_laws.nets_are_as_said.Goals as goal

pub returns : goal.returns
returns c = nets-are-as-said
