use Rattle.byte_streams.proofs.Writing.{Goes-append}
use Rattle.rtlsim_refusals.proofs.explaining.push_reported.Goals as goal

pub returns-in-Lengths : goal.returns-in-Lengths
returns-in-Lengths g c =
    let middle = rw (c.as_bytes.ensures.value, c.words.ensures.middle) at c.push_text-in-Lengths.ensures in
    rw c.in-Lengths.is (
    Goes-append _ _ _ _ _ c.push_subject.ensures
    (Goes-append _ _ _ _ _ (Goes-append _ _ _ _ _ (Goes-append _ _ _ _ _ middle c.push_number.ensures) c.push_text-in-Lengths-2.ensures) c.push_number-in-Lengths.ensures)
    )
