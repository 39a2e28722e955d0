use Rattle.rtlsim_listing.proofs.Printing.{none, refused}
use Rattle.rtlsim_command_faults.proofs.comparing.explain_unnamed.Goals as goal

pub returns-in_err-name : goal.returns-in_err-name
returns-in_err-name g c = refused c.from_residual.result _ _ _ _ c.from_residual.ensures.1 (none _ _)
