use Rattle.rtl_model.proofs.nets.InRange.{keeps_range}
use Rattle.rtl_model.proofs.net_laws.bodies_keep_range.Goals as goal

pub returns : goal.returns
returns c = keeps_range
