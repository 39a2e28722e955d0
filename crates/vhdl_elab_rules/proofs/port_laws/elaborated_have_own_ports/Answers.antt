use Rattle.vhdl_elab_rules.proofs.Ports.{each-has-own-ports}
use Rattle.vhdl_elab_rules.proofs.port_laws.elaborated_have_own_ports.Goals as goal

pub returns : goal.returns
returns c = each-has-own-ports
