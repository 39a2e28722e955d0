use Rattle.std.proofs.Common.{sym, ap, ◌∙◌}
use Rattle.rtlsim_notes.specs.Sayings.{lack_text}
use Rattle.vhdl_places.specs.Lists.{unread_name}
use Rattle.vhdl_slips.specs.Words.{read_of}
use Rattle.rtlsim_notes.proofs.lists.push_list.Goals as goal

pub returns : goal.returns
returns c =
    let found = sym (c.unread_name.ensures ∙ ap (unread_name (read_of c.args.source)) c.tokens_of.ensures) ∙ c.in-Some.is in
    let said = c.in_ok-text.ensures ∙ ap (λ t. lack_text t c.in-Some.unread.lack) c.text_of.ensures in
    rw found (rw (c.place_of.ensures, said) at c.push_note.ensures)
