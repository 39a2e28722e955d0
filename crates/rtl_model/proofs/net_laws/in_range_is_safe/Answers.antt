use Rattle.rtl_model.proofs.nets.InRange.{in_range_is_safe}
use Rattle.rtl_model.proofs.net_laws.in_range_is_safe.Goals as goal

pub returns : goal.returns
returns c = in_range_is_safe
