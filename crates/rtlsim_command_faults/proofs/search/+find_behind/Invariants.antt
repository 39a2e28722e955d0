use Rattle.rtlsim_command_faults.proofs.search.+find_behind.Given as goal

abbrev pub decreases-find_behind : goal.decreases-find_behind
decreases-find_behind g l = l.steps
