use Rattle.vhdl_elab_rules.proofs.laws.Bodies.{each-body-is-connected}
use Rattle.vhdl_elab_rules.proofs.elaboration_laws.bodies_fit_the_net.Goals as goal

pub returns : goal.returns
returns c = each-body-is-connected
