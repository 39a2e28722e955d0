use Rattle.rtlsim_command_faults.proofs.lines.tell_source_fault.Goals as goal

pub returns : goal.returns
returns g c net = rw c.from-fault.ensures at (c.tell_nameless.ensures net)
