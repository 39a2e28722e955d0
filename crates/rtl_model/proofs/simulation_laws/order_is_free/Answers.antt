use Rattle.rtl_model.proofs.simulation.Order.{order_is_free}
use Rattle.rtl_model.proofs.simulation_laws.order_is_free.Goals as goal

pub returns : goal.returns
returns c = order_is_free
