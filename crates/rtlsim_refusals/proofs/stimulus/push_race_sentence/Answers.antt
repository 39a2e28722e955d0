use Rattle.byte_streams.proofs.Writing.{Goes-append}
use Rattle.rtlsim_refusals.proofs.stimulus.push_race_sentence.Goals as goal

pub returns : goal.returns
returns g c =
    let closing = rw (c.as_bytes.ensures.value, c.words.ensures.closing) at c.push_text-2.ensures in
    Goes-append _ _ _ _ _ (Goes-append _ _ _ _ _ (Goes-append _ _ _ _ _ c.push_time.ensures c.push_text.ensures) closing) c.push_text-3.ensures
