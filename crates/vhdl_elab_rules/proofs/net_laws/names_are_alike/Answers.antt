use Rattle.vhdl_elab_rules.proofs.Nets.{each-has-its-names}
use Rattle.vhdl_elab_rules.proofs.net_laws.names_are_alike.Goals as goal

pub returns : goal.returns
returns c = each-has-its-names
