use Rattle.rtl_model.proofs.nets.Widened.{wide_accepts_all}
use Rattle.rtl_model.proofs.net_laws.wide_accepts_all.Goals as goal

pub returns : goal.returns
returns c = wide_accepts_all
