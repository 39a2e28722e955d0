use Rattle.vhdl_source_files.proofs.Told as told
use Rattle.vhdl_source_files.proofs.laws.each_byte_is_told_by_its_file.Goals as goal

pub returns : goal.returns
returns c = told.each
