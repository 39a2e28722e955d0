use Rattle.std.proofs.Common.{◌≡◌, [], replicate}
use Rattle.rtl_stim_lines.specs.Courses.{Sets}
use Rattle.rtl_stim_lines.specs.View.{courses_view}
use Rattle.rtl_stim_lines.proofs.reading.Said.new.Given as goal

abbrev pub invariant-loop-place : goal.invariant-loop-place
invariant-loop-place l = courses_view l.courses ≡ replicate l.place (Sets [])
