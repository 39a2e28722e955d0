use Rattle.byte_streams.proofs.Writing.{Goes-append}
use Rattle.rtlsim_refusals.proofs.stimulus.push_first.Goals as goal

pub returns-in-Some : goal.returns-in-Some
returns-in-Some g c =
    let place = rw c.in-Some.is at c.push_place.ensures in
    let shown = rw c.in-Some.is at c.push_shown.ensures in
    rw c.in-Some.is (Goes-append _ _ _ _ _ (Goes-append _ _ _ _ _ place c.push_text.ensures) shown)
