use Rattle.vhdl_elab_rules.proofs.laws.Wiring.{each-net-is-wired}
use Rattle.vhdl_elab_rules.proofs.elaboration_laws.nets_are_wired.Goals as goal

pub returns : goal.returns
returns c = each-net-is-wired
