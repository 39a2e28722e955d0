use Rattle.std.proofs.Common.{◌≡◌, [], ◌++◌, length, map}
use Rattle.rtlsim_findings.specs.Once.{each_new}
use Rattle.rtlsim_notes.specs.Notes.{is_beside, note_view}
use Rattle.rtlsim_notes.proofs.noted.new_notes.Given as goal

-- what is kept, and then what is new of the rest, is what is new of all
abbrev pub invariant-loop-left : goal.invariant-loop-left
invariant-loop-left l =
    map note_view l.notes.items ++ each_new is_beside (map note_view l.notes.items) (map note_view l.left) ≡ each_new is_beside [] (map note_view l.all)

abbrev pub decreases-loop-left : goal.decreases-loop-left
decreases-loop-left l = length l.left
