use Rattle.vhdl_names_laws.proofs.given.Files as laws
use Rattle.vhdl_names_laws.proofs.soundness_laws.ill_typed_files_break_a_rule.Goals as goal

pub returns : goal.returns
returns c = laws.ill_typed_files_break_a_rule
