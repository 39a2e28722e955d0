use Rattle.std.proofs.Common.{◌++◌, map, ap, sym, subst, ◌∙◌, append-nil}
use Rattle.vhdl_tree.specs.Tree as t
use Rattle.vhdl_tree.specs.View as tree
use Rattle.vhdl_names_rules.specs.Visibility.{with_variables}
use Rattle.vhdl_names_rules.specs.Concurrent as rules
use Rattle.vhdl_names_rules.specs.Declarations as declarations
use Rattle.vhdl_names_rules.specs.problems.Declarations.{in_order, process_declaration}
use Rattle.vhdl_names_rules.specs.problems.Concurrent as broken
use Rattle.vhdl_names_rules.proofs.Telling.{told_same}
use Rattle.vhdl_names_rules.proofs.Passing.{told_by}
use Rattle.vhdl_names_declarations.specs.Counts.{AreCounts}
use Rattle.vhdl_names.specs.steps.Processes as steps
use Rattle.vhdl_names.proofs.Running.{left_process}
use Rattle.vhdl_names.proofs.Told.{process_resumed, process_declares, process_awaited, process_body, process_again, process_ends, has_wait}
use Rattle.vhdl_names.proofs.processes.process.Goals as goal

pub process_declarations-requires : goal.process_declarations-requires
process_declarations-requires c =
    let s = c.args.sight.now in
    subst (AreCounts c.args.counts) (sym (append-nil s.region) ∙ ap (λ ds. s.region ++ ds) (sym c.requires.outside)) c.requires.counts

pub returns-clause-kept : goal.returns-clause-kept
returns-clause-kept c =
    left_process c.args.sight.now (map tree.process_declaration_view c.deref.result.now) _ _ _ _ c.requires.outside
    c.in_ok-declarations.ensures.given c.body.ensures.kept c.leave_process.ensures

pub returns-in_err-sensitivity-clause-told : goal.returns-in_err-sensitivity-clause-told
returns-in_err-sensitivity-clause-told c =
    told_by _ _ _ c.from_residual.result c.from_residual.ensures.1 (λ e p. p)
    (process_resumed c.args.sight.now (tree.option_ident_view c.args.label.now) (tree.process_view c.args.process.now) _
    (told_same _ _ _ (ap (broken.sensitivity c.args.sight.now c.args.process.now.at (tree.sensitivity_view c.args.process.now.sensitivity))
    (has_wait c.args.process.now.wait c.is_some-waits.result c.is_some-waits.ensures)) c.in_err-sensitivity.ensures.told))

pub returns-in_err-declarations-clause-told : goal.returns-in_err-declarations-clause-told
returns-in_err-declarations-clause-told c =
    told_by _ _ _ c.from_residual-in_err-declarations.result c.from_residual-in_err-declarations.ensures.1 (λ e p. p)
    (process_declares c.args.sight.now (tree.option_ident_view c.args.label.now) (tree.process_view c.args.process.now) _ _
    (ap (rules.sensitivity c.args.sight.now (tree.sensitivity_view c.args.process.now.sensitivity)) (sym (has_wait c.args.process.now.wait c.is_some-waits.result c.is_some-waits.ensures))
    ∙ c.in_ok-sensitivity.ensures.given)
    (told_same _ _ _ (ap (λ xs. in_order with_variables declarations.process_declaration process_declaration c.args.sight.now (map tree.process_declaration_view xs)) c.deref.ensures.value) c.in_err-declarations.ensures.told))

pub returns-in_err-sensitivity-2-clause-told : goal.returns-in_err-sensitivity-2-clause-told
returns-in_err-sensitivity-2-clause-told c =
    told_by _ _ _ c.from_residual-in_err-sensitivity-2.result c.from_residual-in_err-sensitivity-2.ensures.1 (λ e p. p)
    (process_awaited c.args.sight.now (tree.option_ident_view c.args.label.now) (tree.process_view c.args.process.now) _ _
    (ap (rules.sensitivity c.args.sight.now (tree.sensitivity_view c.args.process.now.sensitivity)) (sym (has_wait c.args.process.now.wait c.is_some-waits.result c.is_some-waits.ensures))
    ∙ c.in_ok-sensitivity.ensures.given) _ _
    (ap (λ xs. steps.declarations_in c.args.sight.now (map tree.process_declaration_view xs)) (sym c.deref.ensures.value) ∙ c.in_ok-declarations.ensures.given)
    c.in_err-sensitivity-2.ensures.told)

pub returns-in_err-statements-clause-told : goal.returns-in_err-statements-clause-told
returns-in_err-statements-clause-told c =
    told_by _ _ _ c.from_residual-in_err-statements.result c.from_residual-in_err-statements.ensures.1 (λ e p. p)
    (process_body c.args.sight.now (tree.option_ident_view c.args.label.now) (tree.process_view c.args.process.now) _ _
    (ap (rules.sensitivity c.args.sight.now (tree.sensitivity_view c.args.process.now.sensitivity)) (sym (has_wait c.args.process.now.wait c.is_some-waits.result c.is_some-waits.ensures))
    ∙ c.in_ok-sensitivity.ensures.given) _ _
    (ap (λ xs. steps.declarations_in c.args.sight.now (map tree.process_declaration_view xs)) (sym c.deref.ensures.value) ∙ c.in_ok-declarations.ensures.given)
    _ c.in_ok-sensitivity-2.ensures.given
    (told_same _ _ _ (ap (λ xs. broken.body c.process_declarations.new.sight (t.statements_of (map tree.sequential_view xs))) c.deref-2.ensures.value) c.in_err-statements.ensures.told))

pub returns-in_err-statements-2-clause-told : goal.returns-in_err-statements-2-clause-told
returns-in_err-statements-2-clause-told c =
    told_by _ _ _ c.from_residual-in_err-statements-2.result c.from_residual-in_err-statements-2.ensures.1 (λ e p. p)
    (process_again c.args.sight.now (tree.option_ident_view c.args.label.now) (tree.process_view c.args.process.now) _ _
    (ap (rules.sensitivity c.args.sight.now (tree.sensitivity_view c.args.process.now.sensitivity)) (sym (has_wait c.args.process.now.wait c.is_some-waits.result c.is_some-waits.ensures))
    ∙ c.in_ok-sensitivity.ensures.given) _ _
    (ap (λ xs. steps.declarations_in c.args.sight.now (map tree.process_declaration_view xs)) (sym c.deref.ensures.value) ∙ c.in_ok-declarations.ensures.given)
    _ c.in_ok-sensitivity-2.ensures.given
    (told_same _ _ _ (ap (λ s. broken.awaited s (tree.sensitivity_view c.args.process.now.sensitivity) (tree.option_wait_view c.args.process.now.wait)) c.body.ensures.kept) c.in_err-statements-2.ensures.told))

pub returns-in_err-sensitivity-3-clause-told : goal.returns-in_err-sensitivity-3-clause-told
returns-in_err-sensitivity-3-clause-told c =
    told_by _ _ _ c.from_residual-in_err-sensitivity-3.result c.from_residual-in_err-sensitivity-3.ensures.1 (λ e p. p)
    (process_ends c.args.sight.now (tree.option_ident_view c.args.label.now) (tree.process_view c.args.process.now) _ _
    (ap (rules.sensitivity c.args.sight.now (tree.sensitivity_view c.args.process.now.sensitivity)) (sym (has_wait c.args.process.now.wait c.is_some-waits.result c.is_some-waits.ensures))
    ∙ c.in_ok-sensitivity.ensures.given) _ _
    (ap (λ xs. steps.declarations_in c.args.sight.now (map tree.process_declaration_view xs)) (sym c.deref.ensures.value) ∙ c.in_ok-declarations.ensures.given)
    _ c.in_ok-sensitivity-2.ensures.given _
    (ap (λ xs. steps.body c.process_declarations.new.sight (map tree.sequential_view xs)) (sym c.deref-2.ensures.value) ∙ c.in_ok-statements.ensures.given)
    c.in_err-sensitivity-3.ensures.told)
