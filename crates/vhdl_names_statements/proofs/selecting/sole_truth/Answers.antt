use Rattle.std.proofs.Common.{map, ap, ◌∙◌}
use Rattle.vhdl_names_units.specs.views.Answers.{choice_view}
use Rattle.vhdl_names_statements.specs.steps.Deciding.{sole_position}
use Rattle.vhdl_names_statements.proofs.steps.Deciding.{first_truth, no_truth}
use Rattle.vhdl_names_statements.proofs.selecting.sole_truth.Goals as goal

pub returns-in-Some : goal.returns-in-Some
returns-in-Some c =
    c.sole_position.ensures ∙ ap (λ cs. sole_position (map choice_view cs)) c.deref.ensures.value
    ∙ first_truth c.args.alternatives.now c.in-Some.first.now c.in-Some.ensures.value

pub returns-in-None : goal.returns-in-None
returns-in-None c = no_truth c.args.alternatives.now c.in-None.ensures.value
