use Rattle.std.proofs.Common.{sym, ◌∙◌}
use Rattle.vhdl_names_statements.proofs.steps.Cases.{last_in}
use Rattle.vhdl_names_statements.proofs.choices.ends_in_others.Goals as goal

pub returns-in-Some : goal.returns-in-Some
returns-in-Some c = c.is_others.ensures ∙ sym (last_in c.args.lists.now c.in-Some.field-0-1.now c.in-Some.last.now c.in-Some.ensures.cases.0)
