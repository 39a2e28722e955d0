use Rattle.vhdl_names_registers.proofs.Named.{written_are_named}
use Rattle.vhdl_names_registers.proofs.register_laws.written_units_are_named.Goals as goal

pub returns : goal.returns
returns c = written_are_named
