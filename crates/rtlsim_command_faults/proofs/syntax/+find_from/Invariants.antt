use Rattle.rtlsim_command_faults.proofs.syntax.+find_from.Given as goal

abbrev pub decreases-find_from : goal.decreases-find_from
decreases-find_from l = l.more
