use Rattle.std.proofs.Common.{◌≡◌, length}
use Rattle.rtl_stim_lines.specs.Lines.{words_of}
use Rattle.rtl_progress.proofs.stops.without_blanks.Given as goal

abbrev pub invariant-loop-left : goal.invariant-loop-left
invariant-loop-left l = words_of l.left ≡ words_of l.line

abbrev pub decreases-loop-left : goal.decreases-loop-left
decreases-loop-left l = length l.left
