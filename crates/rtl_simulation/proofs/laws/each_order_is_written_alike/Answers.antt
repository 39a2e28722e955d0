use Rattle.rtl_simulation.proofs.Alike as alike
use Rattle.rtl_simulation.proofs.laws.each_order_is_written_alike.Goals as goal

pub returns : goal.returns
returns c = alike.each_order_is_written_alike c.simulations_agree.ensures
