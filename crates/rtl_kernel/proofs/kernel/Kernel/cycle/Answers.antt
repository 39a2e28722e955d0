use Rattle.rtl_model.proofs.simulation.Order.{HasRun-done}
use Rattle.rtl_model.specs.nets.CoreNetlist.{core_netlist}
use Rattle.rtl_net.specs.Nets.{flat}
use Rattle.rtl_kernel.proofs.kernel.Kernel.cycle.Goals as goal

pub returns-clause-ready : goal.returns-clause-ready
returns-clause-ready g c = HasRun-done (core_netlist (flat c.update.new.self.net)) c.update.new.self.state c.run_all.new.self.state c.run_all.ensures.ran
