use Rattle.byte_streams.proofs.Writing.{Goes-append}
use Rattle.rtlsim_refusals.proofs.explaining.push_head.Goals as goal

pub returns : goal.returns
returns g c = Goes-append _ _ _ _ _ c.push_position.ensures c.push_title.ensures
