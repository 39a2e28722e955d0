use Rattle.vhdl_source_files.proofs.Cuts.{shown_len}
use Rattle.vhdl_source_files.proofs.cutting.cut_after.Goals as goal

pub slice_bounds-result-end : goal.slice_bounds-result-end
slice_bounds-result-end c = shown_len c.args.after.now c.if-after-gt100.true
