use Rattle.std.proofs.Common.{[], inr, refl}
use Rattle.byte_streams.proofs.Writing.{Goes-nil}
use Rattle.rtlsim_commands.proofs.wider.push_reading.Goals as goal

pub returns-in_default : goal.returns-in_default
returns-in_default g c = ([], inr (inr refl), Goes-nil _)
