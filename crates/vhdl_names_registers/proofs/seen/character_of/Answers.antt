use Rattle.std.proofs.Common.{sym}
use Rattle.vhdl_names_registers.proofs.Parting.{no_character}
use Rattle.vhdl_names_registers.proofs.seen.character_of.Goals as goal

pub returns-in_default : goal.returns-in_default
returns-in_default c = sym (no_character c.args.vector.now c.in_default.not-Character)
