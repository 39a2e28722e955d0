use Rattle.rtlsim_listing.proofs.Printing.{longer, refused, then}
use Rattle.rtlsim_command_faults.proofs.lines.push_told.Goals as goal

pub returns-in_err-push_fault-clause-printed : goal.returns-in_err-push_fault-clause-printed
returns-in_err-push_fault-clause-printed g c = refused c.from_residual.result _ _ _ _ c.from_residual.ensures.1 (longer _ _ _ _ c.in_err-push_fault.ensures.printed)

pub returns-clause-printed : goal.returns-clause-printed
returns-clause-printed g c = then c.explain_fault.result _ _ _ _ _ c.in_ok-push_fault.ensures.printed c.explain_fault.ensures.printed
