use Rattle.std.proofs.Common.{ap, ◌∙◌}
use Rattle.vhdl_tree.specs.View.{scheme_view}
use Rattle.vhdl_names_rules.specs.Concurrent.{sight_within}
use Rattle.vhdl_names.proofs.statements.leave_generate.Goals as goal

pub returns-in-For : goal.returns-in-For
returns-in-For c = λ outer e. c.leave_parameter.ensures outer _ (e ∙ ap (λ k. sight_within outer (scheme_view k)) c.in-For.is)
