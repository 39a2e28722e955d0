use Rattle.vhdl_names_laws.proofs.Units as laws
use Rattle.vhdl_names_laws.proofs.soundness_laws.ports_have_names_of_their_own.Goals as goal

pub returns : goal.returns
returns c = laws.ports_distinct
