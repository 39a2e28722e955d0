use Rattle.byte_streams.proofs.Writing.{Goes-append}
use Rattle.rtlsim_listing.proofs.Printing.{none, refused}
use Rattle.rtlsim_command_faults.proofs.comparing.explain_name.Goals as goal

pub returns-in_err-nearest : goal.returns-in_err-nearest
returns-in_err-nearest g c = refused c.from_residual.result _ _ _ _ c.from_residual.ensures.1 (none _ _)

pub returns : goal.returns
returns g c = Goes-append _ _ _ _ _ c.push_unnamed.ensures (rw (c.deref.ensures.value, c.in_ok-nearest.ensures) at c.push_nearest.ensures)
