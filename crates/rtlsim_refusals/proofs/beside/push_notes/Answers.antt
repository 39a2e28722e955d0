use Rattle.std.proofs.Common.{sym, subst}
use Rattle.std.proofs.lemmas.Grind.{flat_map-append}
use Rattle.byte_streams.specs.Written.{Goes}
use Rattle.byte_streams.proofs.Writing.{Goes-append}
use Rattle.rtlsim_refusals.specs.Explained.{note_text}
use Rattle.rtlsim_refusals.proofs.beside.push_notes.Goals as goal

pub returns : goal.returns
returns g c =
    let state = g.S.Sink.state in
    subst (Goes (state c.args.sink.now) (state c.push_note-2.new.sink)) (sym (flat_map-append note_text _ _)) (Goes-append _ _ _ _ _ c.push_note.ensures c.push_note-2.ensures)
