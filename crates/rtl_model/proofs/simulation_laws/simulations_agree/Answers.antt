use Rattle.rtl_model.proofs.simulation.Orders.{every_order_is_one}
use Rattle.rtl_model.proofs.simulation_laws.simulations_agree.Goals as goal

pub returns : goal.returns
returns c = every_order_is_one
