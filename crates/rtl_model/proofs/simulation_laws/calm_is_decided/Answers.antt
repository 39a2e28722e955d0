use Rattle.rtl_model.proofs.simulation.CalmDecided.{calm_is_decided}
use Rattle.rtl_model.proofs.simulation_laws.calm_is_decided.Goals as goal

pub returns : goal.returns
returns c = calm_is_decided
