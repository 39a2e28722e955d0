use Rattle.rtlsim_listing.proofs.Printing.{none, refused}
use Rattle.rtlsim_refusals.proofs.stimulus.explain_plain.Goals as goal

pub returns-clause-printed : goal.returns-clause-printed
returns-clause-printed g c = rw (c.in_ok-first.ensures.first, c.line_of-line.ensures) at c.push_plain.ensures

pub returns-in_err-first-clause-printed : goal.returns-in_err-first-clause-printed
returns-in_err-first-clause-printed g c = refused c.from_residual.result _ _ _ _ c.from_residual.ensures.1 (none _ _)
