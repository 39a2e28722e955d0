use Rattle.rtl_model.proofs.simulation.Solution.{one_solution}
use Rattle.rtl_model.proofs.simulation_laws.one_solution.Goals as goal

pub returns : goal.returns
returns c = one_solution
