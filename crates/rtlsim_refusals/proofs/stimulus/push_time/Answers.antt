use Rattle.byte_streams.proofs.Writing.{Goes-append}
use Rattle.rtlsim_refusals.proofs.stimulus.push_time.Goals as goal

pub returns : goal.returns
returns g c =
    let opening = rw (c.as_bytes.ensures.value, c.words-words.ensures.opening) at c.push_text.ensures in
    let middle = rw (c.as_bytes-2.ensures.value, c.words-words.ensures.middle) at c.push_text-2.ensures in
    Goes-append _ _ _ _ _ (Goes-append _ _ _ _ _ opening c.push_number.ensures) middle
