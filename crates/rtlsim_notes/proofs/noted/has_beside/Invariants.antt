use Rattle.std.proofs.Common.{◌≡◌, map, drop}
use Rattle.std.specs.List.{list_any}
use Rattle.rtlsim_notes.specs.Notes.{is_beside, note_view}
use Rattle.rtlsim_notes.proofs.noted.has_beside.Given as goal

-- the notes that are left decide
abbrev pub invariant-loop-other : goal.invariant-loop-other
invariant-loop-other l =
    list_any (is_beside (note_view l.note)) (map note_view (drop l.other-index l.notes))
    ≡ list_any (is_beside (note_view l.note)) (map note_view l.notes)
