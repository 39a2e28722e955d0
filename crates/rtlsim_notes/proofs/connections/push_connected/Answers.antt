use Rattle.std.proofs.Common.{sym, ◌∙◌}
use Rattle.rtlsim_notes.proofs.connections.push_connected.Goals as goal

pub returns : goal.returns
returns c =
    let found = sym (rw c.driving_port-port.ensures at c.connection.ensures) ∙ c.in-Some.is in
    let said = rw c.driving_port-port.ensures at c.in_ok-text.ensures in
    rw found (rw said at c.push_note.ensures)
