use Rattle.rtl_model.proofs.simulation.Settling.{each_calm_net_keeps}
use Rattle.rtl_model.proofs.simulation_laws.calm_nets_keep.Goals as goal

pub returns : goal.returns
returns c = each_calm_net_keeps
