use Rattle.std.proofs.Common.{◌≡◌, ◌++◌, length, map}
use Rattle.rtlsim_notes.specs.Notes.{looks_from, note_view}
use Rattle.vhdl_slips.specs.Words.{read_of}
use Rattle.rtlsim_notes.proofs.circles.push_looks_from.Given as goal

-- what was appended, and then the notes of the nets that are left, are the whole
abbrev pub invariant-loop-left : goal.invariant-loop-left
invariant-loop-left l =
    map note_view l.notes.items ++ looks_from (read_of l.source) l.net l.first l.room l.left
    ≡ map note_view l.initial.notes.items ++ looks_from (read_of l.source) l.net l.first 20 l.nets

abbrev pub decreases-loop-left : goal.decreases-loop-left
decreases-loop-left l = length l.left
