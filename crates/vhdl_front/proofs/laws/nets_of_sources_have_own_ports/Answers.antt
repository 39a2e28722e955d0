use Rattle.vhdl_front.proofs.Layers.{own_ports}
use Rattle.vhdl_front.proofs.laws.nets_of_sources_have_own_ports.Goals as goal

pub returns : goal.returns
returns c = own_ports
