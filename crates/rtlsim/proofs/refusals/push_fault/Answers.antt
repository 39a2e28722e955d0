use Rattle.rtlsim.proofs.refusals.push_fault.Goals as goal

pub returns-in-Unread : goal.returns-in-Unread
returns-in-Unread g c = rw c.in-Unread.is c.push_unread.ensures
