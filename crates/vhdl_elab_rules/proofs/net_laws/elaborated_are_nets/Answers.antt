use Rattle.vhdl_elab_rules.proofs.Nets.{each-elaborated-is-net}
use Rattle.vhdl_elab_rules.proofs.net_laws.elaborated_are_nets.Goals as goal

pub returns : goal.returns
returns c = each-elaborated-is-net
