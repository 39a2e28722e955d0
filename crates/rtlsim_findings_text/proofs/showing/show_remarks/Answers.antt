use Rattle.rtlsim_listing.proofs.Printing.{none, refused}
use Rattle.rtlsim_findings_text.proofs.showing.show_remarks.Goals as goal

pub returns-in_err-remarks : goal.returns-in_err-remarks
returns-in_err-remarks g c = refused c.from_residual.result _ _ _ _ c.from_residual.ensures.1 (none _ _)

pub returns-in_err-text : goal.returns-in_err-text
returns-in_err-text g c = refused c.from_residual-in_err-text.result _ _ _ _ c.from_residual-in_err-text.ensures.1 (none _ _)
