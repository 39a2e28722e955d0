-- The netlist as the theory of simulation has it.
use Rattle.rtl_model.specs.nets.CoreNetlist.{core_netlist}
use Rattle.rtl_model.specs.simulation.Netlist.{Netlist}
use Rattle.rtl_net.specs.Nets.{NetlistView, flat}

abbrev pub core : NetlistView → Netlist
core net = core_netlist (flat net)
