use Rattle.vhdl_names_laws.proofs.Spelled as laws
use Rattle.vhdl_names_laws.proofs.soundness_laws.spelled_files_have_words.Goals as goal

pub returns : goal.returns
returns c = laws.spelled_files_have_words
