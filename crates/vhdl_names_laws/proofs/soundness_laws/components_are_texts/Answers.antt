use Rattle.vhdl_names_laws.proofs.Texts as laws
use Rattle.vhdl_names_laws.proofs.soundness_laws.components_are_texts.Goals as goal

pub returns : goal.returns
returns c = laws.components_are_texts
