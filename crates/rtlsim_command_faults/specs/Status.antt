-- The exit statuses.
use Rattle.std.specs.Prelude.{ℕ}
use Rattle.rtlsim_command_faults.specs.declared.status.Status.{Status}
use Rattle.rtlsim_command_faults.specs.declared.status.Status.TheVariants.{Done, Words, Source, Rejected, Stimulus, Unsettled, Memory, Failed, Differs}

abbrev pub code_of : Status → ℕ
code_of Done = 0
code_of Words = 2
code_of Source = 3
code_of Rejected = 4
code_of Stimulus = 5
code_of Unsettled = 6
code_of Memory = 7
code_of Failed = 8
code_of Differs = 9
