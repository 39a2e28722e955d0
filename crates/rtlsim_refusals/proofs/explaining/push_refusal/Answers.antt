use Rattle.byte_streams.proofs.Writing.{Goes-append}
use Rattle.rtlsim_refusals.proofs.explaining.push_refusal.Goals as goal

pub returns : goal.returns
returns g c =
    let rest = rw (c.none.ensures, c.refusal_help.ensures) at c.push_rest.ensures in
    Goes-append _ _ _ _ _ (Goes-append _ _ _ _ _ (Goes-append _ _ _ _ _ c.push_head.ensures c.push_refusal_sentence.ensures) rest) c.push_text.ensures
