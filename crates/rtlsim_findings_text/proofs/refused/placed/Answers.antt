use Rattle.std.proofs.Common.{ap, ◌∙◌}
use Rattle.rtlsim_refusals.specs.Places.{position_behind}
use Rattle.rtlsim_findings_text.proofs.refused.placed.Goals as goal

pub returns-clause-stands : goal.returns-clause-stands
returns-clause-stands c = c.position_behind.ensures ∙ ap position_behind c.halves.ensures.before
