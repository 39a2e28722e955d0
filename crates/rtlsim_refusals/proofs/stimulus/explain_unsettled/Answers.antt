use Rattle.byte_streams.proofs.Writing.{Goes-append}
use Rattle.rtlsim_refusals.proofs.stimulus.explain_unsettled.Goals as goal

pub returns : goal.returns
returns g c = Goes-append _ _ _ _ _ (Goes-append _ _ _ _ _ c.push_head.ensures c.push_time.ensures) c.push_rest.ensures
