use Rattle.byte_streams.proofs.Writing.{Goes-append}
use Rattle.rtlsim.proofs.refusals.explain_input.Goals as goal

pub returns : goal.returns
returns g c =
    let name = rw c.as_bytes.ensures.value at c.push_text.ensures in
    let reason = rw (c.as_bytes-2.ensures.value, c.reason.ensures) at c.push_text-3.ensures in
    let help = rw (c.as_bytes-3.ensures.value, c.help.ensures) at c.push_text-5.ensures in
    Goes-append _ _ _ _ _
    (Goes-append _ _ _ _ _
    (Goes-append _ _ _ _ _ (Goes-append _ _ _ _ _ (Goes-append _ _ _ _ _ name c.push_text-2.ensures) reason) c.push_text-4.ensures)
    help)
    c.push_text-6.ensures
