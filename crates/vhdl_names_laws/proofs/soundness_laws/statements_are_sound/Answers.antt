use Rattle.vhdl_names_laws.proofs.Statements as laws
use Rattle.vhdl_names_laws.proofs.soundness_laws.statements_are_sound.Goals as goal

pub returns : goal.returns
returns c = λ i counts sight h ys xs q. laws.statements_are ys i counts sight xs h q
