use Rattle.byte_streams.proofs.Writing.{Goes-append}
use Rattle.rtlsim_refusals.proofs.told.push_paragraph.Goals as goal

pub returns : goal.returns
returns g c =
    let sentence = rw c.deref.ensures.value at c.push_text.ensures in
    let below = rw c.deref-2.ensures.value at c.push_text-2.ensures in
    Goes-append _ _ _ _ _ (Goes-append _ _ _ _ _ (Goes-append _ _ _ _ _ c.push_head.ensures sentence) c.push_rest.ensures) below
