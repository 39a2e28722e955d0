use Rattle.rtlsim_command_faults.proofs.Behind.{unpushed}
use Rattle.rtlsim_command_faults.proofs.search.push_report.Goals as goal

pub returns-in_err-one : goal.returns-in_err-one
returns-in_err-one c = unpushed c.from_residual.result _ _ _ c.from_residual.ensures.1
