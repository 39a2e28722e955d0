use Rattle.std.proofs.Common.{◌≡◌, List, [], ◌++◌, map, take, ap, subst, sym, ◌∙◌}
use Rattle.std.specs.Prelude.{IfOk}
use Rattle.std.proofs.lemmas.List.{take-map}
use Rattle.rtlsim_findings.proofs.Lists.{map_same}
use Rattle.rtlsim_findings.specs.Findings.{finding_view}
use Rattle.rtlsim_findings.specs.Once.{each_new}
use Rattle.rtlsim_notes.specs.Notes.{NoteView, is_beside, further_notes, note_view, own_notes}
use Rattle.rtlsim_notes.specs.declared.noted.Note.{Note}
use Rattle.vhdl_slips.specs.Words.{read_of}
use Rattle.rtlsim_notes.proofs.listing.notes.Goals as goal

-- both lists behind nothing are the two in order
in_order : (none first second looked : List Note) (own rule : List NoteView) → none ≡ [] → map note_view first ≡ map note_view none ++ own
    → map note_view second ≡ map note_view first ++ rule → looked ≡ take 20 second → map note_view looked ≡ take 20 (own ++ rule)
in_order none first second looked own rule empty has_own has_rule are =
    let all = has_rule ∙ ap (λ ns. ns ++ rule) (has_own ∙ ap (λ ns. ns ++ own) (map_same _ _ empty note_view)) in
    map_same _ _ are note_view ∙ sym (take-map note_view 20 second) ∙ ap (take 20) all

pub returns : goal.returns
returns c =
    let source = read_of c.args.source in
    let f = finding_view c.args.finding.now in
    let looked_at = in_order _ _ _ _ (own_notes source c.args.net.now f) (further_notes source c.args.net.now f) c.new-all.ensures.items
    c.in_ok-push_own.ensures c.in_ok-push_further.ensures (c.first_of.ensures ∙ ap (take 20) c.deref.ensures.value) in
    subst (λ (ns : List NoteView). IfOk c.new_notes.result (λ notes. map note_view notes.items ≡ each_new is_beside [] ns)) looked_at c.new_notes.ensures
