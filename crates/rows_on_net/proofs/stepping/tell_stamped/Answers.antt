use Rattle.rtl_model.proofs.simulation.Order.{HasRun-done}
use Rattle.rtl_model.specs.nets.CoreNetlist.{core_netlist}
use Rattle.rtl_net.specs.Nets.{flat}
use Rattle.rows_on_net.proofs.stepping.tell_stamped.Goals as goal

pub tell_steps-requires-clause-ready : goal.tell_steps-requires-clause-ready
tell_steps-requires-clause-ready g c = HasRun-done (core_netlist (flat c.in-Ok.kernel.net)) c.in-Ok.kernel.state c.start.new.self.state c.start.ensures.ran
