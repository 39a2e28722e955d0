use Rattle.rtl_model.proofs.simulation.Settling.{each_moment_comes}
use Rattle.rtl_model.proofs.simulation_laws.each_moment_comes.Goals as goal

pub returns : goal.returns
returns c = each_moment_comes
