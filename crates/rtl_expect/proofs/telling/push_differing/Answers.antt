use Rattle.byte_streams.proofs.Writing.{Goes-append}
use Rattle.rtl_expect.proofs.telling.push_differing.Goals as goal

pub returns-in-Some : goal.returns-in-Some
returns-in-Some g c = rw c.in-Some.is (Goes-append _ _ _ _ _ c.push_text-in-Some.ensures c.push_found.ensures)

pub returns-in-None : goal.returns-in-None
returns-in-None g c = rw c.in-None.is c.push_text.ensures
