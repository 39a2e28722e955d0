use Rattle.std.proofs.Common.{ap, sym, ◌∙◌}
use Rattle.vhdl_names_rules.specs.declared.fault.NameProblem.TheVariants.{WrongKind}
use Rattle.vhdl_names_trees.specs.views.Expressions.{choice_view}
use Rattle.vhdl_names_rules.specs.problems.Broken.{unless}
use Rattle.vhdl_names_rules.proofs.Telling.{unless_kept}
use Rattle.vhdl_names_operators.proofs.Arranging.{choice_is}
use Rattle.vhdl_names_operators.proofs.aggregates.choice.Goals as goal

pub returns-then-serves-clause-kept : goal.returns-then-serves-clause-kept
returns-then-serves-clause-kept c = choice_is c.args.is_only (choice_view c.args.choice.now) ∙ unless_kept WrongKind _ _ (sym c.serves.ensures ∙ c.if-serves.true)

pub returns-else-serves-clause-told : goal.returns-else-serves-clause-told
returns-else-serves-clause-told c =
    rw (c.at.ensures, c.choice_start.ensures)
    (choice_is c.args.is_only (choice_view c.args.choice.now) ∙ ap (unless WrongKind _) (sym c.serves.ensures ∙ c.if-serves.false))
