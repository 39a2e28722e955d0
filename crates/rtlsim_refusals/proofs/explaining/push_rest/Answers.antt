use Rattle.byte_streams.proofs.Writing.{Goes-append}
use Rattle.rtlsim_refusals.proofs.explaining.push_rest.Goals as goal

pub returns : goal.returns
returns g c = Goes-append _ _ _ _ _ (Goes-append _ _ _ _ _ (Goes-append _ _ _ _ _ c.push_text.ensures c.push_shown.ensures) c.push_notes.ensures) c.push_help.ensures
