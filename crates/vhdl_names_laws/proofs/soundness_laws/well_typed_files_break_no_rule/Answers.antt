use Rattle.vhdl_names_rules.proofs.kept.Files as laws
use Rattle.vhdl_names_laws.proofs.soundness_laws.well_typed_files_break_no_rule.Goals as goal

pub returns : goal.returns
returns c = laws.file_kept
