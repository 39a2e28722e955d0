use Rattle.std.proofs.Common.{map, false, ap}
use Rattle.vhdl_tree.specs.View as tree
use Rattle.vhdl_names_rules.specs.problems.Choices.{choices}
use Rattle.vhdl_names_rules.proofs.Telling.{told_same}
use Rattle.vhdl_names_rules.proofs.Passing.{told_first, told_second}
use Rattle.vhdl_names_statements.proofs.steps.Assigning.{alone_kept}
use Rattle.vhdl_names_statements.proofs.assignments.chosen.Goals as goal

pub returns-in_err-statements-clause-told : goal.returns-in_err-statements-clause-told
returns-in_err-statements-clause-told c = told_first _ _ _ _ c.from_residual.result c.from_residual.ensures.1 (λ e p. p) c.in_err-statements.ensures.told

pub returns-in_err-choices-clause-told : goal.returns-in_err-choices-clause-told
returns-in_err-choices-clause-told c =
    told_second _ _ _ _ c.from_residual-in_err-choices.result c.from_residual-in_err-choices.ensures.1 (λ e p. p)
    (alone_kept c.args.sight.now false (tree.name_view c.args.target.now) (tree.waveform_view c.args.item.now).value _ c.in_ok-statements.ensures.given)
    (told_same _ _ _ (ap (λ xs. choices c.args.sight.now c.args.selected (map tree.choice_view xs)) c.deref.ensures.value) c.in_err-choices.ensures.told)
