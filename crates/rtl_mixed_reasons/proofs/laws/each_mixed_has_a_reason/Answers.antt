use Rattle.rtl_mixed_reasons.proofs.Law.{each-mixed}
use Rattle.rtl_mixed_reasons.proofs.laws.each_mixed_has_a_reason.Goals as goal

pub returns : goal.returns
returns c = each-mixed
