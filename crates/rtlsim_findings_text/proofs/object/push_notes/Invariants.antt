use Rattle.std.proofs.Common.{◌≡◌, ◌++◌, map, take}
use Rattle.rtlsim_notes.specs.Notes.{note_view}
use Rattle.rtlsim_findings_text.specs.Json.{noted_text}
use Rattle.rtlsim_findings_text.specs.Marks.{files_at}
use Rattle.rtlsim_findings_text.proofs.object.push_notes.Given as goal

abbrev pub invariant-loop-note : goal.invariant-loop-note
invariant-loop-note l =
    map (λ t. t.items) l.texts.items
    ≡ map (λ t. t.items) l.initial.texts.items
    ++ map (noted_text (files_at l.site)) (map note_view (take l.note-index l.notes))
