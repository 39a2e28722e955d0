use Rattle.std.proofs.Common.{sym, ap, ◌∙◌}
use Rattle.rtlsim_findings.specs.Findings.{finding_view}
use Rattle.rtlsim_notes.specs.Notes.{own_text, start_or}
use Rattle.rtlsim_notes.proofs.listing.push_own.Goals as goal

pub returns : goal.returns
returns c =
    let edge = c.edge_of-edge.ensures in
    let found = sym c.note_at.ensures ∙ c.in-Some.is in
    let at = c.start_or.ensures ∙ ap (start_or c.in-Some.at) edge in
    let said = c.in_ok-text.ensures ∙ ap (own_text c.args.net.now (finding_view c.args.finding.now)) edge in
    rw found (rw (at, said) at c.push_note.ensures)
