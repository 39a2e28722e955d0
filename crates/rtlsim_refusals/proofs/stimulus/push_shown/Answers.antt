use Rattle.byte_streams.proofs.Writing.{Goes-append}
use Rattle.rtlsim_refusals.proofs.stimulus.push_shown.Goals as goal

pub returns-in-Some-Some : goal.returns-in-Some-Some
returns-in-Some-Some g c =
    rw (c.in-Some-Some.is-0, c.in-Some-Some.is-1) (Goes-append _ _ _ _ _ (rw c.numbered_line.ensures at c.push_text.ensures) c.push_text-in-Some-Some.ensures)
