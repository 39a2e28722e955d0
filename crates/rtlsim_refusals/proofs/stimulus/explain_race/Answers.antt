use Rattle.rtlsim_listing.proofs.Printing.{none, refused}
use Rattle.rtlsim_refusals.proofs.stimulus.explain_race.Goals as goal

pub returns-in_err-line : goal.returns-in_err-line
returns-in_err-line g c = refused c.from_residual.result _ _ _ _ c.from_residual.ensures.1 (none _ _)

pub returns-in_err-input : goal.returns-in_err-input
returns-in_err-input g c = refused c.from_residual-in_err-input.result _ _ _ _ c.from_residual-in_err-input.ensures.1 (none _ _)

pub returns-in_err-clock : goal.returns-in_err-clock
returns-in_err-clock g c = refused c.from_residual-in_err-clock.result _ _ _ _ c.from_residual-in_err-clock.ensures.1 (none _ _)
