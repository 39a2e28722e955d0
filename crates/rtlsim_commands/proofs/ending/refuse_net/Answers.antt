use Rattle.rtlsim_commands.proofs.ending.refuse_net.Goals as goal

pub returns : goal.returns
returns g c = record { between = _; lines = c.tell_fault-said.ensures; behind = c.tell_behind.ensures }
