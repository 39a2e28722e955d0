use Rattle.vhdl_names_registers.proofs.Sound.{written_are_sound}
use Rattle.vhdl_names_registers.proofs.register_laws.written_units_are_sound.Goals as goal

pub returns : goal.returns
returns c = written_are_sound
