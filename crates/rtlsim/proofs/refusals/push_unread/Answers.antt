use Rattle.byte_streams.proofs.Writing.{Goes-append}
use Rattle.rtlsim.proofs.refusals.push_unread.Goals as goal

pub returns-then-explains : goal.returns-then-explains
returns-then-explains g c = rw c.if-explains.true (Goes-append _ _ _ _ _ c.push_text.ensures c.explain_input.ensures)

pub returns-else-explains : goal.returns-else-explains
returns-else-explains g c = rw c.if-explains.false c.push_text.ensures
