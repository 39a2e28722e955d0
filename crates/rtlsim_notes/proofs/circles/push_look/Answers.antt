use Rattle.std.proofs.Common.{sym, ap, ◌∙◌}
use Rattle.rtlsim_notes.specs.Notes.{read_from}
use Rattle.rtlsim_notes.specs.Sayings.{look_text}
use Rattle.vhdl_slips.specs.Words.{read_of}
use Rattle.rtlsim_notes.proofs.circles.push_look.Goals as goal

pub returns : goal.returns
returns c =
    let net = c.args.net.now in
    let driven = sym c.driver_of.ensures ∙ c.in-Some.is in
    let read = read_from (read_of c.args.source) net c.in-Some.process c.args.next in
    let found = sym (c.in_ok-token.ensures ∙ ap read c.look_start-start.ensures) ∙ c.in-Some-2.is in
    let said = c.in_ok-text.ensures ∙ ap (look_text net c.args.number c.args.next) c.text_of-name.ensures in
    rw (driven, found) (rw said at c.push_note.ensures)
