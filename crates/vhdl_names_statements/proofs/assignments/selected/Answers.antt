use Rattle.std.proofs.Common.{sym}
use Rattle.vhdl_tree.specs.View as tree
use Rattle.vhdl_names_rules.specs.problems.Broken.{Tells}
use Rattle.vhdl_names_rules.specs.problems.Concurrent.{selected, waveforms}
use Rattle.vhdl_names_rules.proofs.Telling.{told_same}
use Rattle.vhdl_names_statements.proofs.steps.Told.{selector_given}
use Rattle.vhdl_names_rules.proofs.Passing.{told_by, told_first}
use Rattle.vhdl_names_statements.proofs.assignments.selected.Goals as goal

pub returns-in_err-by-clause-told : goal.returns-in_err-by-clause-told
returns-in_err-by-clause-told c = told_first _ _ _ _ c.from_residual.result c.from_residual.ensures.1 (λ e p. p) c.in_err-by.ensures.told

pub returns-in_err-all-clause-told : goal.returns-in_err-all-clause-told
returns-in_err-all-clause-told c =
    let s = c.args.sight.now in
    let a = tree.selected_assignment_view c.args.assignment.now in
    let h : Tells (selected s a) c.in_err-all.field-0.0 =
    told_same _ (selected s a) c.in_err-all.field-0.0 (sym (selector_given s a.selector (λ k. waveforms s k a) _ c.in_ok-by.ensures.given)) c.in_err-all.ensures.told in
    told_by _ c.in_err-all.field-0.0 _ c.from_residual-in_err-all.result c.from_residual-in_err-all.ensures.1 (λ e p. p) h
