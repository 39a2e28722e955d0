use Rattle.vhdl_names_values.proofs.Fixing.{no_character}
use Rattle.vhdl_names_values.proofs.fixed.character_of.Goals as goal

pub returns-in_default : goal.returns-in_default
returns-in_default c = no_character c.args.e.now c.in_default.not-Character
