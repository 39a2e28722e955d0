use Rattle.std.proofs.Common.{append-nil, sym, subst}
use Rattle.byte_streams.specs.Written.{Goes}
use Rattle.byte_streams.proofs.Writing.{Goes-append}
use Rattle.rtlsim_refusals.specs.Explained.{note_text, note_view}
use Rattle.rtlsim_refusals.proofs.beside.push_note.Goals as goal

-- a list of one note is written as that one is
pub returns-in-Some : goal.returns-in-Some
returns-in-Some g c =
    let state = g.S.Sink.state in
    let one = Goes-append _ _ _ _ _ (Goes-append _ _ _ _ _ (Goes-append _ _ _ _ _ (Goes-append _ _ _ _ _ c.push_position.ensures c.push_text.ensures) c.push_text-in-Some.ensures)
    c.push_text-in-Some-2.ensures) c.push_shown.ensures in
    rw c.in-Some.is (subst (Goes (state c.args.sink.now) (state c.push_shown.new.sink)) (sym (append-nil (note_text (note_view c.in-Some.note)))) one)
