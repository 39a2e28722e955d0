use Rattle.rtlsim_command_faults.proofs.lines.push_stim.Goals as goal

pub returns-in-Race-clause-printed : goal.returns-in-Race-clause-printed
returns-in-Race-clause-printed g c = rw c.in-Race.is c.push_race.ensures
