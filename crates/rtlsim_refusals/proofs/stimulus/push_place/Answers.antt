use Rattle.byte_streams.proofs.Writing.{Goes-append}
use Rattle.rtlsim_refusals.proofs.stimulus.push_place.Goals as goal

pub returns : goal.returns
returns g c = Goes-append _ _ _ _ _ (Goes-append _ _ _ _ _ c.push_text.ensures c.push_line_number.ensures) c.push_text-2.ensures
