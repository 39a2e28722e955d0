use Rattle.std.proofs.Common.{sym, ap, ◌∙◌}
use Rattle.rtlsim_notes.specs.Notes.{read_from}
use Rattle.rtlsim_notes.specs.Sayings.{read_text}
use Rattle.vhdl_slips.specs.Words.{read_of}
use Rattle.rtlsim_notes.proofs.lists.push_read.Goals as goal

pub returns : goal.returns
returns c =
    let read = read_from (read_of c.args.source) c.args.net.now c.args.process c.args.number in
    let found = sym (c.in_ok-token.ensures ∙ ap read c.at_process-start.ensures) ∙ c.in-Some.is in
    let said = c.in_ok-text.ensures ∙ ap read_text c.text_of.ensures in
    rw found (rw said at c.push_note.ensures)
