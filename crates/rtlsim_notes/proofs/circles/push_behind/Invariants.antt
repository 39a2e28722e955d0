use Rattle.std.proofs.Common.{◌≡◌, ◌++◌, length, map}
use Rattle.rtlsim_notes.specs.Notes.{note_view, steps_from}
use Rattle.rtlsim_notes.proofs.circles.push_behind.Given as goal

-- what was appended, and then the notes at the processes that are left, are the whole
abbrev pub invariant-loop-left : goal.invariant-loop-left
invariant-loop-left l =
    map note_view l.notes.items ++ steps_from l.net l.first l.before l.left
    ≡ map note_view l.initial.notes.items ++ steps_from l.net l.first l.first l.processes

abbrev pub decreases-loop-left : goal.decreases-loop-left
decreases-loop-left l = length l.left
