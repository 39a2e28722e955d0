use Rattle.vhdl_names_laws.proofs.Named as laws
use Rattle.vhdl_names_laws.proofs.soundness_laws.units_are_named.Goals as goal

pub returns-clause-named : goal.returns-clause-named
returns-clause-named c = laws.units_are_named

pub returns-clause-ports : goal.returns-clause-ports
returns-clause-ports c = laws.small_ports_distinct
