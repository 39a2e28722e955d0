use Rattle.rtl_model.proofs.nets.Headline.{each_has_one_solution}
use Rattle.rtl_model.proofs.net_laws.has_one_solution.Goals as goal

pub returns : goal.returns
returns c = each_has_one_solution
