use Rattle.std.proofs.Common.{sym}
use Rattle.vhdl_names_operators.proofs.Closing.{no_character}
use Rattle.vhdl_names_operators.proofs.operands.closed_vector.Goals as goal

pub returns-in_default : goal.returns-in_default
returns-in_default c = sym (no_character c.args.vector c.in_default.not-Character)
