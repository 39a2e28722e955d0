use Rattle.rtlsim_notes.proofs.connections.push_connection.Goals as goal

-- `net.scopes()` stands twice: c.scopes and c.scopes-2
pub returns : goal.returns
returns c =
    rw (c.deref.ensures.value, c.in_ok-names.ensures, c.label_at-label.ensures, c.instance_of-instance.ensures, c.scopes.ensures, c.scopes-2.ensures) at c.push_connected.ensures
