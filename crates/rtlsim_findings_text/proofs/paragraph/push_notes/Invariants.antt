use Rattle.std.proofs.Common.{◌≡◌, ◌++◌, map, take}
use Rattle.std.specs.Prelude.{flat_map}
use Rattle.rtlsim_notes.specs.Notes.{note_view}
use Rattle.rtlsim_findings_text.specs.Explained.{noted}
use Rattle.rtlsim_findings_text.specs.Marks.{view}
use Rattle.rtlsim_findings_text.proofs.paragraph.push_notes.Given as goal

abbrev pub invariant-loop-note : goal.invariant-loop-note
invariant-loop-note l =
    l.text.items ≡ l.initial.text.items ++ flat_map (noted (map view l.files)) (map note_view (take l.note-index l.notes))
