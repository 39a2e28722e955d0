use Rattle.vhdl_names_laws.proofs.Expressions as laws
use Rattle.vhdl_names_laws.proofs.soundness_laws.expressions_are_sound.Goals as goal

pub returns : goal.returns
returns c = laws.expressions_fit
