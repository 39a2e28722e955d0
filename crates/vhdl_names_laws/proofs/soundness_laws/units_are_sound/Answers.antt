use Rattle.vhdl_names_laws.proofs.Units as laws
use Rattle.vhdl_names_laws.proofs.soundness_laws.units_are_sound.Goals as goal

pub returns : goal.returns
returns c = laws.units_are_sound
