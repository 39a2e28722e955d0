use Rattle.rtlsim_command_faults.proofs.explaining.push_told.Goals as goal

pub returns-in-Some : goal.returns-in-Some
returns-in-Some g c = rw c.in-Some.is c.push_paragraph.ensures

pub returns-in-None : goal.returns-in-None
returns-in-None g c = rw c.in-None.is c.push_text.ensures
