use Rattle.rtlsim_commands.proofs.serving.tell_answer.Goals as goal

pub returns-in-Ok : goal.returns-in-Ok
returns-in-Ok g c = rw c.in-Ok.is (_, c.tell-said.ensures.told, c.tell_remarks.ensures, c.tell-said.ensures.status)

pub returns-in-Err : goal.returns-in-Err
returns-in-Err g c = rw c.in-Err.is c.refuse_net.ensures
