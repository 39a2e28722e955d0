use Rattle.byte_streams.proofs.Writing.{Goes-append}
use Rattle.rtlsim_refusals.proofs.stimulus.push_plain.Goals as goal

pub returns : goal.returns
returns g c =
    let middle = rw (c.as_bytes.ensures.value, c.words.ensures.middle) at c.push_text.ensures in
    Goes-append _ _ _ _ _ (Goes-append _ _ _ _ _ c.push_head.ensures middle) c.push_rest.ensures
