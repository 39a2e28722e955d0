use Rattle.rtl_model.proofs.nets.Headline.{each_forgets}
use Rattle.rtl_model.proofs.net_laws.forgets_variables.Goals as goal

pub returns : goal.returns
returns c = each_forgets
