use Rattle.std.proofs.Common.{◌∙◌}
use Rattle.vhdl_names_statements.proofs.steps.Deciding.{first_numbers, no_numbers}
use Rattle.vhdl_names_statements.proofs.choices.are_numbers.Goals as goal

pub returns-in-Some : goal.returns-in-Some
returns-in-Some c =
    c.is_numbers.ensures ∙ first_numbers c.args.choices.now c.in-Some.first.now c.in-Some.ensures.value

pub returns-in-None : goal.returns-in-None
returns-in-None c = no_numbers c.args.choices.now c.in-None.ensures.value
