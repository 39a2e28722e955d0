use Rattle.byte_streams.proofs.Writing.{Goes-append}
use Rattle.rtlsim_refusals.proofs.stimulus.push_line_number.Goals as goal

pub returns-in-Some : goal.returns-in-Some
returns-in-Some g c = rw c.in-Some.is (Goes-append _ _ _ _ _ c.push_text.ensures c.push_number.ensures)
