use Rattle.vhdl_source_files.proofs.Placed as placed
use Rattle.vhdl_source_files.proofs.laws.each_byte_is_placed_in_its_file.Goals as goal

pub returns : goal.returns
returns c = placed.each
