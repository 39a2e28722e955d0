use Rattle.byte_streams.proofs.Writing.{Goes-append}
use Rattle.rtlsim_command_faults.proofs.lines.push_reported.Goals as goal

pub returns-in-Some : goal.returns-in-Some
returns-in-Some g c = rw c.in-Some.is (Goes-append _ _ _ _ _ (Goes-append _ _ _ _ _ c.push_rule.ensures c.push_place.ensures) c.push_text.ensures)

pub returns-in-None : goal.returns-in-None
returns-in-None g c = rw c.in-None.is c.push_memory.ensures
