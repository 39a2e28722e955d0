use Rattle.byte_streams.proofs.Writing.{Goes-append}
use Rattle.rtl_expect.proofs.saying.push_signal.Goals as goal

pub returns-in-None : goal.returns-in-None
returns-in-None g c =
    rw c.in-None.is (Goes-append _ _ _ _ _ (Goes-append _ _ _ _ _ (Goes-append _ _ _ _ _ c.push_text.ensures c.push_wanted.ensures) c.push_text-in-None.ensures) c.push_name.ensures)

pub returns-in-Some : goal.returns-in-Some
returns-in-Some g c =
    rw c.in-Some.is (Goes-append _ _ _ _ _ (Goes-append _ _ _ _ _ (Goes-append _ _ _ _ _ (Goes-append _ _ _ _ _
    c.push_name-in-Some.ensures c.push_text-in-Some.ensures) c.push_found.ensures) c.push_text-in-Some-2.ensures) c.push_wanted-in-Some.ensures)
