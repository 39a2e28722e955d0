use Rattle.rtlsim_notes.proofs.scopes.+entity_within.Given as goal

abbrev pub decreases-entity_within : goal.decreases-entity_within
decreases-entity_within l = l.steps
