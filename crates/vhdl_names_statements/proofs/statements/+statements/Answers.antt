use Rattle.std.proofs.Common.{arith, ◌≡◌, suc, ◌+◌, ◌<◌, true, false, ◌∷◌, [], length, map, drop, Some, refl, ap, sym, ◌∙◌}
use Rattle.std.proofs.lemmas.List.{map-append}
use Rattle.vhdl_tree.specs.Tree as tree'
use Rattle.vhdl_tree.specs.View as tree
use Rattle.vhdl_tree.specs.declared.sequential.Case.{out-Case}
use Rattle.vhdl_tree.specs.declared.sequential.If.{out-If}
use Rattle.vhdl_names_rules.specs.Rules.{◌>>◌, each, if_any}
use Rattle.vhdl_names_rules.specs.Choices as are
use Rattle.vhdl_names_rules.specs.Statements.{statement}
use Rattle.vhdl_names_rules.proofs.Along.{gives_along}
use Rattle.vhdl_names_rules.proofs.Memory.{memory_gives, memory_told}
use Rattle.vhdl_names_units.specs.views.Sequential.{statement_view, statements_view, branch_view, branches_view, alternative_view, alternatives_view}
use Rattle.vhdl_names_rules.specs.problems.Expressions.{condition}
use Rattle.vhdl_names_rules.specs.problems.Choices.{choices}
use Rattle.vhdl_names_rules.specs.problems.Covered.{any_alternative}
use Rattle.vhdl_names_rules.specs.problems.Statements as broken
use Rattle.vhdl_names_rules.proofs.Telling.{told_same, told_left, told_right, told_on}
use Rattle.vhdl_names_rules.proofs.kept.Expressions.{condition_kept}
use Rattle.vhdl_names_rules.proofs.kept.Choices.{choices_kept}
use Rattle.vhdl_names_statements.specs.steps.Cases as cases
use Rattle.vhdl_names_statements.specs.steps.Sequential as steps
use Rattle.vhdl_names_statements.specs.steps.Told as told
use Rattle.vhdl_names_rules.proofs.Passing.{passed_on, told_by}
use Rattle.vhdl_names_statements.proofs.steps.Sequential.{if_gives, loop_gives, left_loop}
use Rattle.vhdl_names_statements.proofs.steps.Cases.{case_gives}
use Rattle.vhdl_names_statements.proofs.steps.Told as by
use Rattle.vhdl_names_statements.proofs.steps.Covering as part
use Rattle.vhdl_names_statements.proofs.steps.Turns.{none_done, all_done}
use Rattle.vhdl_names_units.proofs.Behind.{next_left}
use Rattle.vhdl_names_statements.proofs.steps.Labelling.{behind, nothing_before, labelled_fails, labelled_dropped, labelled_added, labelled_ends}
use Rattle.vhdl_names_statements.proofs.steps.Conditional.{assigned_gives, when_gives}
use Rattle.vhdl_names_statements.proofs.statements.+statements.Goals as goal
use Rattle.vhdl_names_statements.proofs.statements.+statements.Goals.{statements-then-not-is_dropped+in_ok-push, statements-else-not-is_dropped}

pub turn-returns-clause-kept : goal.turn-returns-clause-kept
turn-returns-clause-kept t c = left_loop _ _ _ _ _ c.in_ok-enter_loop.ensures.given c.statements-found.ensures.kept c.leave_loop.ensures

pub statement-returns-in-If-clause-given : goal.statement-returns-in-If-clause-given
statement-returns-in-If-clause-given t c =
    let s = c.args.sight.now in let l = tree.option_ident_view c.args.item.now.label in
    gives_along statement_view _ _ _ (ap (λ x. statement s l (tree.statement_view x)) c.in-If.is ∙ if_gives s l c.in-If.conditional) c.if_statement.ensures.given

pub statement-returns-in-For-clause-given : goal.statement-returns-in-For-clause-given
statement-returns-in-For-clause-given t c =
    let s = c.args.sight.now in let l = tree.option_ident_view c.args.item.now.label in
    gives_along statement_view _ _ _ (ap (λ x. statement s l (tree.statement_view x)) c.in-For.is ∙ loop_gives s l c.in-For.repeated) c.for_loop.ensures.given

pub statement-returns-in-Case-clause-given : goal.statement-returns-in-Case-clause-given
statement-returns-in-Case-clause-given t c =
    let s = c.args.sight.now in let l = tree.option_ident_view c.args.item.now.label in
    gives_along statement_view _ _ _ (ap (λ x. statement s l (tree.statement_view x)) c.in-Case.is ∙ case_gives s l c.in-Case.case) c.case_statement.ensures.given

-- ---- what is told

pub statements-returns-in_err-next-clause-told : goal.statements-returns-in_err-next-clause-told
statements-returns-in_err-next-clause-told m c =
    let lt : c.loop-item.item-index < length c.args.list.now = omega arith in
    told_by _ c.in_err-next.field-0.0 _ c.from_residual.result c.from_residual.ensures.1 (λ e p. p)
    (by.turn_told tree.sequential_view steps.labelled told.labelled c.args.sight.now _ c.loop-item.invariant.0 c.args.list.now c.loop-item.item-index c.item-item.result lt c.item-item.is
    _ c.in_err-next.field-0.0 (by.statements_any c.args.sight.now (map tree.sequential_view c.args.list.now)) c.loop-item.invariant.2 c.in_err-next.ensures.told)

pub statements-returns-in_err-next-clause-given : goal.statements-returns-in_err-next-clause-given
statements-returns-in_err-next-clause-given m c =
    let lt : c.loop-item.item-index < length c.args.list.now = omega arith in
    passed_on _ _ c.in_err-next.field-0.0 _ c.from_residual.result c.from_residual.ensures.1 (λ e p. p)
    (λ n. labelled_fails c.args.sight.now _ (statements_view c.loop-item.all) c.args.list.now c.loop-item.item-index c.item-item.result c.loop-item.invariant.1 lt c.item-item.is
    (sym (ap (λ o. steps.labelled o (tree.sequential_view c.item-item.result)) c.loop-item.invariant.0) ∙ c.in_err-next.ensures.given n))

pub statements-returns-in_err-push-clause-given : goal.statements-returns-in_err-push-clause-given
statements-returns-in_err-push-clause-given m c = memory_gives _ _ _ c.from_residual-in_err-push.result c.from_residual-in_err-push.ensures.1 (λ e p. p)

pub statements-returns-in_err-push-clause-told : goal.statements-returns-in_err-push-clause-told
statements-returns-in_err-push-clause-told m c = memory_told _ _ c.from_residual-in_err-push.result c.from_residual-in_err-push.ensures.1 (λ e p. p)

pub statements-returns-in_err-next-clause-kept : goal.statements-returns-in_err-next-clause-kept
statements-returns-in_err-next-clause-kept m c = c.in_err-next.ensures.kept ∙ c.loop-item.invariant.0

pub statements-returns-in_err-push-clause-kept : goal.statements-returns-in_err-push-clause-kept
statements-returns-in_err-push-clause-kept m c = c.in_ok-next.ensures.kept ∙ c.loop-item.invariant.0

pub branches-returns-in_err-next-clause-given : goal.branches-returns-in_err-next-clause-given
branches-returns-in_err-next-clause-given m c =
    let lt : c.loop-item.item-index < length c.args.list.now = omega arith in
    passed_on _ _ c.in_err-next.field-0.0 _ c.from_residual.result c.from_residual.ensures.1 (λ e p. p)
    (λ n. by.turn_none tree.conditional_view steps.guarded told.guarded c.args.sight.now _ c.loop-item.invariant.0 c.args.list.now c.loop-item.item-index c.item-item.result lt c.item-item.is
    (branches_view c.loop-item.all) _ c.loop-item.invariant.1 (c.in_err-next.ensures.given n))

pub branches-returns-in_err-push-clause-given : goal.branches-returns-in_err-push-clause-given
branches-returns-in_err-push-clause-given m c = memory_gives _ _ _ c.from_residual-in_err-push.result c.from_residual-in_err-push.ensures.1 (λ e p. p)

pub branches-returns-in_err-push-clause-told : goal.branches-returns-in_err-push-clause-told
branches-returns-in_err-push-clause-told m c = memory_told _ _ c.from_residual-in_err-push.result c.from_residual-in_err-push.ensures.1 (λ e p. p)

pub branches-returns-in_err-next-clause-kept : goal.branches-returns-in_err-next-clause-kept
branches-returns-in_err-next-clause-kept m c = c.in_err-next.ensures.kept ∙ c.loop-item.invariant.0

pub branches-returns-in_err-push-clause-kept : goal.branches-returns-in_err-push-clause-kept
branches-returns-in_err-push-clause-kept m c = c.in_ok-next.ensures.kept ∙ c.loop-item.invariant.0

pub alternatives-returns-in_err-next-clause-given : goal.alternatives-returns-in_err-next-clause-given
alternatives-returns-in_err-next-clause-given m c =
    let lt : c.loop-item.item-index < length c.args.list.now = omega arith in
    passed_on _ _ c.in_err-next.field-0.0 _ c.from_residual.result c.from_residual.ensures.1 (λ e p. p)
    (λ n. by.turn_none tree.alternative_view (λ o. cases.chosen o c.args.selected) (λ o. told.alternative o c.args.selected) c.args.sight.now _ c.loop-item.invariant.0 c.args.list.now c.loop-item.item-index c.item-item.result lt c.item-item.is
    (alternatives_view c.loop-item.all) _ c.loop-item.invariant.1 (c.in_err-next.ensures.given n))

pub alternatives-returns-in_err-push-clause-given : goal.alternatives-returns-in_err-push-clause-given
alternatives-returns-in_err-push-clause-given m c = memory_gives _ _ _ c.from_residual-in_err-push.result c.from_residual-in_err-push.ensures.1 (λ e p. p)

pub alternatives-returns-in_err-push-clause-told : goal.alternatives-returns-in_err-push-clause-told
alternatives-returns-in_err-push-clause-told m c = memory_told _ _ c.from_residual-in_err-push.result c.from_residual-in_err-push.ensures.1 (λ e p. p)

pub alternatives-returns-in_err-next-clause-kept : goal.alternatives-returns-in_err-next-clause-kept
alternatives-returns-in_err-next-clause-kept m c = c.in_err-next.ensures.kept ∙ c.loop-item.invariant.0

pub alternatives-returns-in_err-push-clause-kept : goal.alternatives-returns-in_err-push-clause-kept
alternatives-returns-in_err-push-clause-kept m c = c.in_ok-next.ensures.kept ∙ c.loop-item.invariant.0

pub statements-loop-item-preserved : goal.statements-loop-item-preserved
statements-loop-item-preserved m c =
    let s = c.args.sight.now in let q = c.item-item.result in let i = c.loop-item.item-index in
    let y = statement_view c.in_ok-next.next in
    let lt : c.loop-item.item-index < length c.args.list.now = omega arith in
    let next : suc c.loop-item.item-index ≡ c.loop-item.item-index + 1 = omega arith in
    let given = sym (ap (λ o. steps.labelled o (tree.sequential_view q)) c.loop-item.invariant.0) ∙ c.in_ok-next.ensures.given in
    let rest = steps.all_labelled s (map tree.sequential_view (drop (suc i) c.args.list.now)) in
    let done : steps.all_labelled c.args.sight.now (map tree.sequential_view c.args.list.now)
    ≡ behind (statements_view c.if-not-is_dropped.all) (steps.all_labelled c.args.sight.now (map tree.sequential_view (drop (suc c.loop-item.item-index) c.args.list.now))) =
    elim c.if-not-is_dropped.branch [
      | statements-then-not-is_dropped+in_ok-push w ↦
          labelled_added s _ (statements_view c.loop-item.all) c.args.list.now i q y c.loop-item.invariant.1 lt c.item-item.is given (sym c.is_dropped.ensures ∙ w.if-not-is_dropped.true)
          ∙ ap (λ ys. behind ys rest) (sym (ap (map statement_view) w.in_ok-push.ensures.items ∙ map-append statement_view c.loop-item.all.items (c.in_ok-next.next ∷ [])))
          ∙ ap (λ v. behind (statements_view v) rest) (sym w.all-is)
      | statements-else-not-is_dropped w ↦
          labelled_dropped s _ (statements_view c.loop-item.all) c.args.list.now i q y c.loop-item.invariant.1 lt c.item-item.is given (sym c.is_dropped.ensures ∙ w.if-not-is_dropped.false)
          ∙ ap (λ v. behind (statements_view v) rest) (sym w.all-is)
    ] in (
      c.in_ok-next.ensures.kept ∙ c.loop-item.invariant.0,
      done ∙ ap (λ k. behind (statements_view c.if-not-is_dropped.all) (steps.all_labelled s (map tree.sequential_view (drop k c.args.list.now)))) next,
      next_left tree.sequential_view c.args.list.now i q lt c.item-item.is (told.labelled s) c.loop-item.invariant.2 (by.labelled_kept s (tree.sequential_view q) y given),
    )

pub branches-returns-in_err-next-clause-told : goal.branches-returns-in_err-next-clause-told
branches-returns-in_err-next-clause-told m c =
    let lt : c.loop-item.item-index < length c.args.list.now = omega arith in
    told_by _ c.in_err-next.field-0.0 _ c.from_residual.result c.from_residual.ensures.1 (λ e p. p)
    (by.turn_told tree.conditional_view steps.guarded told.guarded c.args.sight.now _ c.loop-item.invariant.0 c.args.list.now c.loop-item.item-index c.item-item.result lt c.item-item.is
    _ c.in_err-next.field-0.0 (by.conditionals_any c.args.sight.now (map tree.conditional_view c.args.list.now)) c.loop-item.invariant.2 c.in_err-next.ensures.told)

pub branches-loop-item-preserved : goal.branches-loop-item-preserved
branches-loop-item-preserved m c =
    let lt : c.loop-item.item-index < length c.args.list.now = omega arith in
    by.turn_done tree.conditional_view steps.guarded told.guarded c.args.sight.now _ c.loop-item.invariant.0 c.args.list.now c.loop-item.item-index c.item-item.result lt c.item-item.is
    _ (branches_view c.loop-item.all) _ (branch_view c.in_ok-next.next) _ c.loop-item.invariant.1 c.loop-item.invariant.2 c.in_ok-next.ensures.kept c.in_ok-next.ensures.given
    (ap (map branch_view) c.in_ok-push.ensures.items ∙ map-append branch_view c.loop-item.all.items (c.in_ok-next.next ∷ [])) (by.guarded_kept c.args.sight.now)

pub alternatives-returns-in_err-next-clause-told : goal.alternatives-returns-in_err-next-clause-told
alternatives-returns-in_err-next-clause-told m c =
    let lt : c.loop-item.item-index < length c.args.list.now = omega arith in
    told_by _ c.in_err-next.field-0.0 _ c.from_residual.result c.from_residual.ensures.1 (λ e p. p)
    (by.turn_told tree.alternative_view (λ o. cases.chosen o c.args.selected) (λ o. told.alternative o c.args.selected) c.args.sight.now _ c.loop-item.invariant.0 c.args.list.now c.loop-item.item-index c.item-item.result lt c.item-item.is
    _ c.in_err-next.field-0.0 (by.alternatives_any c.args.sight.now c.args.selected (map tree.alternative_view c.args.list.now)) c.loop-item.invariant.2 c.in_err-next.ensures.told)

pub alternatives-loop-item-preserved : goal.alternatives-loop-item-preserved
alternatives-loop-item-preserved m c =
    let lt : c.loop-item.item-index < length c.args.list.now = omega arith in
    by.turn_done tree.alternative_view (λ o. cases.chosen o c.args.selected) (λ o. told.alternative o c.args.selected) c.args.sight.now _ c.loop-item.invariant.0 c.args.list.now c.loop-item.item-index c.item-item.result lt c.item-item.is
    _ (alternatives_view c.loop-item.all) _ (alternative_view c.in_ok-next.next) _ c.loop-item.invariant.1 c.loop-item.invariant.2 c.in_ok-next.ensures.kept c.in_ok-next.ensures.given
    (ap (map alternative_view) c.in_ok-push.ensures.items ∙ map-append alternative_view c.loop-item.all.items (c.in_ok-next.next ∷ [])) (by.alternative_kept c.args.sight.now c.args.selected)

pub statement-returns-in-SignalAssignment-clause-told : goal.statement-returns-in-SignalAssignment-clause-told
statement-returns-in-SignalAssignment-clause-told m c =
    let s = c.args.sight.now in let l = tree.option_ident_view c.args.item.now.label in
    by.on_along _ _ _ (by.assigned_told s l (tree.name_view c.in-SignalAssignment.target) (tree.value_view c.in-SignalAssignment.value) ∙ sym (ap (λ x. broken.statement s l (tree.statement_view x)) c.in-SignalAssignment.is)) c.assigned.ensures.told

pub statement-returns-in-VariableAssignment-clause-told : goal.statement-returns-in-VariableAssignment-clause-told
statement-returns-in-VariableAssignment-clause-told m c =
    let s = c.args.sight.now in let l = tree.option_ident_view c.args.item.now.label in
    by.on_along _ _ _ (by.set_told s l (tree.name_view c.in-VariableAssignment.target) (tree.value_view c.in-VariableAssignment.value) ∙ sym (ap (λ x. broken.statement s l (tree.statement_view x)) c.in-VariableAssignment.is)) c.assigned-in-VariableAssignment.ensures.told

pub statement-returns-in-SignalAssignment-clause-given : goal.statement-returns-in-SignalAssignment-clause-given
statement-returns-in-SignalAssignment-clause-given m c =
    let s = c.args.sight.now in let l = tree.option_ident_view c.args.item.now.label in
    gives_along statement_view _ _ _
    (ap (λ x. statement s l (tree.statement_view x)) c.in-SignalAssignment.is ∙ assigned_gives s l false (tree.name_view c.in-SignalAssignment.target) (tree.value_view c.in-SignalAssignment.value))
    c.assigned.ensures.given

pub statement-returns-in-VariableAssignment-clause-given : goal.statement-returns-in-VariableAssignment-clause-given
statement-returns-in-VariableAssignment-clause-given m c =
    let s = c.args.sight.now in let l = tree.option_ident_view c.args.item.now.label in
    gives_along statement_view _ _ _
    (ap (λ x. statement s l (tree.statement_view x)) c.in-VariableAssignment.is ∙ assigned_gives s l true (tree.name_view c.in-VariableAssignment.target) (tree.value_view c.in-VariableAssignment.value))
    c.assigned-in-VariableAssignment.ensures.given

pub statement-returns-in-ConditionalAssignment-clause-given : goal.statement-returns-in-ConditionalAssignment-clause-given
statement-returns-in-ConditionalAssignment-clause-given m c =
    let s = c.args.sight.now in let l = tree.option_ident_view c.args.item.now.label in let i = c.in-ConditionalAssignment in
    gives_along statement_view _ _ _
    (ap (λ x. statement s l (tree.statement_view x)) i.is
    ∙ when_gives s l i.is_variable (tree.name_view i.target) (tree.branches_view i.branches) (tree.option_value_view i.otherwise)
    ∙ ap (λ bs. steps.conditionally s i.is_variable (tree.name_view i.target) (map tree.branch_view bs) (tree.option_value_view i.otherwise)) (sym c.deref.ensures.value))
    c.conditional.ensures.given

pub statement-returns-in-ConditionalAssignment-clause-told : goal.statement-returns-in-ConditionalAssignment-clause-told
statement-returns-in-ConditionalAssignment-clause-told m c =
    let s = c.args.sight.now in let l = tree.option_ident_view c.args.item.now.label in let i = c.in-ConditionalAssignment in
    by.on_along _ _ _
    (ap (λ bs. broken.conditional s i.is_variable (tree.name_view i.target) (map tree.branch_view bs) (tree.option_value_view i.otherwise)) c.deref.ensures.value
    ∙ by.conditional_told s l i.is_variable (tree.name_view i.target) (tree.branches_view i.branches) (tree.option_value_view i.otherwise)
    ∙ sym (ap (λ x. broken.statement s l (tree.statement_view x)) i.is))
    c.conditional.ensures.told

pub statement-returns-in-If-clause-told : goal.statement-returns-in-If-clause-told
statement-returns-in-If-clause-told m c =
    let s = c.args.sight.now in let l = tree.option_ident_view c.args.item.now.label in
    by.on_along _ _ _ (sym (ap (λ x. broken.statement s l (tree.statement_view x)) c.in-If.is)) c.if_statement.ensures.told

pub statement-returns-in-Case-clause-told : goal.statement-returns-in-Case-clause-told
statement-returns-in-Case-clause-told m c =
    let s = c.args.sight.now in let l = tree.option_ident_view c.args.item.now.label in
    by.on_along _ _ _ (sym (ap (λ x. broken.statement s l (tree.statement_view x)) c.in-Case.is)) c.case_statement.ensures.told

pub statement-returns-in-For-clause-told : goal.statement-returns-in-For-clause-told
statement-returns-in-For-clause-told m c =
    let s = c.args.sight.now in let l = tree.option_ident_view c.args.item.now.label in
    by.on_along _ _ _ (sym (ap (λ x. broken.statement s l (tree.statement_view x)) c.in-For.is)) c.for_loop.ensures.told

pub if_statement-returns-in_err-branches-clause-told : goal.if_statement-returns-in_err-branches-clause-told
if_statement-returns-in_err-branches-clause-told m c =
    let s = c.args.sight.now in let l = tree.option_ident_view c.args.label.now in
    told_by _ c.in_err-branches.field-0.0 _ c.from_residual.result c.from_residual.ensures.1 (λ e p. p)
    (by.if_branch s l c.args.conditional.now c.in_err-branches.field-0.0
    (told_same _ _ c.in_err-branches.field-0.0 (ap (λ xs. broken.conditionals s (tree'.conditionals_of (map tree.conditional_view xs))) c.deref.ensures.value)
    c.in_err-branches.ensures.told))

pub if_statement-returns-in_err-otherwise-clause-told : goal.if_statement-returns-in_err-otherwise-clause-told
if_statement-returns-in_err-otherwise-clause-told m c =
    let s = c.args.sight.now in let l = tree.option_ident_view c.args.label.now in let i = c.args.conditional.now in
    let gs : each (steps.guarded s) (tree.conditionals_view (out-If c.args.conditional.now).branches) ≡ Some (branches_view c.in_ok-branches.branches) =
    ap (λ xs. each (steps.guarded s) (map tree.conditional_view xs)) (sym c.deref.ensures.value) ∙ c.in_ok-branches.ensures.given in
    told_by _ c.in_err-otherwise.field-0.0 _ c.from_residual-in_err-otherwise.result c.from_residual-in_err-otherwise.ensures.1 (λ e p. p)
    (by.if_else s l i c.in_err-otherwise.field-0.0 _ gs
    (told_same _ _ c.in_err-otherwise.field-0.0
    (ap (λ x. broken.otherwise x (tree'.otherwise_of (tree.option_sequentials_view (out-If c.args.conditional.now).otherwise))) c.branches.ensures.kept)
    c.in_err-otherwise.ensures.told))

pub if_statement-returns-in_err-branches-2-clause-told : goal.if_statement-returns-in_err-branches-2-clause-told
if_statement-returns-in_err-branches-2-clause-told m c =
    let s = c.args.sight.now in let l = tree.option_ident_view c.args.label.now in let i = c.args.conditional.now in
    let gs : each (steps.guarded s) (tree.conditionals_view (out-If c.args.conditional.now).branches) ≡ Some (branches_view c.in_ok-branches.branches) =
    ap (λ xs. each (steps.guarded s) (map tree.conditional_view xs)) (sym c.deref.ensures.value) ∙ c.in_ok-branches.ensures.given in
    told_by _ c.in_err-branches-2.field-0.0 _ c.from_residual-in_err-branches-2.result c.from_residual-in_err-branches-2.ensures.1 (λ e p. p)
    (by.if_ends s l i c.in_err-branches-2.field-0.0 _ gs _
    (ap (λ x. if_any (steps.all_labelled x) (tree.option_sequentials_view (out-If c.args.conditional.now).otherwise)) (sym c.branches.ensures.kept) ∙ c.in_ok-otherwise.ensures.given)
    c.in_err-branches-2.ensures.told)

pub case_statement-returns-in_err-selected-clause-told : goal.case_statement-returns-in_err-selected-clause-told
case_statement-returns-in_err-selected-clause-told m c =
    let s = c.args.sight.now in let l = tree.option_ident_view c.args.label.now in
    told_by _ c.in_err-selected.field-0.0 _ c.from_residual.result c.from_residual.ensures.1 (λ e p. p)
    (by.case_selector s l c.args.case.now c.in_err-selected.field-0.0 c.in_err-selected.ensures.told)

pub case_statement-returns-in_err-all-clause-told : goal.case_statement-returns-in_err-all-clause-told
case_statement-returns-in_err-all-clause-told m c =
    let s = c.args.sight.now in let l = tree.option_ident_view c.args.label.now in
    told_by _ c.in_err-all.field-0.0 _ c.from_residual-in_err-all.result c.from_residual-in_err-all.ensures.1 (λ e p. p)
    (by.case_parts s l c.args.case.now c.in_err-all.field-0.0 _ c.in_ok-selected.ensures.given c.in_err-all.ensures.told)

pub for_loop-returns-in_err-range-clause-told : goal.for_loop-returns-in_err-range-clause-told
for_loop-returns-in_err-range-clause-told m c =
    let s = c.args.sight.now in let l = tree.option_ident_view c.args.label.now in
    told_by _ c.in_err-range.field-0.0 _ c.from_residual.result c.from_residual.ensures.1 (λ e p. p)
    (by.loop_range s l c.args.repeated.now c.in_err-range.field-0.0 c.in_err-range.ensures.told)

pub for_loop-returns-in_err-turn-clause-told : goal.for_loop-returns-in_err-turn-clause-told
for_loop-returns-in_err-turn-clause-told m c =
    let s = c.args.sight.now in let l = tree.option_ident_view c.args.label.now in
    told_by _ c.in_err-turn.field-0.0 _ c.from_residual-in_err-turn.result c.from_residual-in_err-turn.ensures.1 (λ e p. p)
    (by.loop_turn s l c.args.repeated.now c.in_err-turn.field-0.0 _ c.in_ok-range.ensures.given c.in_err-turn.ensures.told)

pub for_loop-returns-in_err-range-2-clause-told : goal.for_loop-returns-in_err-range-2-clause-told
for_loop-returns-in_err-range-2-clause-told m c =
    let s = c.args.sight.now in let l = tree.option_ident_view c.args.label.now in
    told_by _ c.in_err-range-2.field-0.0 _ c.from_residual-in_err-range-2.result c.from_residual-in_err-range-2.ensures.1 (λ e p. p)
    (by.loop_ends s l c.args.repeated.now c.in_err-range-2.field-0.0 _ c.in_ok-range.ensures.given _ c.in_ok-turn.ensures.given c.in_err-range-2.ensures.told)

pub branch-returns-in_err-condition-clause-told : goal.branch-returns-in_err-condition-clause-told
branch-returns-in_err-condition-clause-told m c =
    let s = c.args.sight.now in let x = tree.conditional_view c.args.item.now in
    told_by _ c.in_err-condition.field-0.0 _ c.from_residual.result c.from_residual.ensures.1 (λ e p. p)
    (told_left (condition s x.condition) (broken.statements s (tree'.statements_of x.statements)) c.in_err-condition.field-0.0 c.in_err-condition.ensures.told)

pub branch-returns-in_err-statements-clause-told : goal.branch-returns-in_err-statements-clause-told
branch-returns-in_err-statements-clause-told m c =
    let s = c.args.sight.now in let x = tree.conditional_view c.args.item.now in
    told_by _ c.in_err-statements.field-0.0 _ c.from_residual-in_err-statements.result c.from_residual-in_err-statements.ensures.1 (λ e p. p)
    (told_right (condition s x.condition) (broken.statements s (tree'.statements_of x.statements)) c.in_err-statements.field-0.0
    (condition_kept s x.condition _ c.in_ok-condition.ensures.given)
    (told_same _ _ c.in_err-statements.field-0.0 (ap (λ xs. broken.statements s (tree'.statements_of (map tree.sequential_view xs))) c.deref.ensures.value)
    c.in_err-statements.ensures.told))

pub alternative-returns-in_err-choices-clause-told : goal.alternative-returns-in_err-choices-clause-told
alternative-returns-in_err-choices-clause-told m c =
    let s = c.args.sight.now in let x = tree.alternative_view c.args.item.now in
    told_by _ c.in_err-choices.field-0.0 _ c.from_residual.result c.from_residual.ensures.1 (λ e p. p)
    (told_left (choices s c.args.selected x.choices) (broken.statements s (tree'.statements_of x.statements)) c.in_err-choices.field-0.0
    (told_same _ _ c.in_err-choices.field-0.0 (ap (λ xs. choices s c.args.selected (map tree.choice_view xs)) c.deref.ensures.value) c.in_err-choices.ensures.told))

pub alternative-returns-in_err-statements-clause-told : goal.alternative-returns-in_err-statements-clause-told
alternative-returns-in_err-statements-clause-told m c =
    let s = c.args.sight.now in let x = tree.alternative_view c.args.item.now in
    told_by _ c.in_err-statements.field-0.0 _ c.from_residual-in_err-statements.result c.from_residual-in_err-statements.ensures.1 (λ e p. p)
    (told_right (choices s c.args.selected x.choices) (broken.statements s (tree'.statements_of x.statements)) c.in_err-statements.field-0.0
    (choices_kept s c.args.selected x.choices _ (ap (λ xs. are.choices s c.args.selected (map tree.choice_view xs)) (sym c.deref.ensures.value) ∙ c.in_ok-choices.ensures.given))
    (told_same _ _ c.in_err-statements.field-0.0 (ap (λ xs. broken.statements s (tree'.statements_of (map tree.sequential_view xs))) c.deref-2.ensures.value)
    c.in_err-statements.ensures.told))

pub otherwise-returns-in_err-statements-in-Some-clause-told : goal.otherwise-returns-in_err-statements-in-Some-clause-told
otherwise-returns-in_err-statements-in-Some-clause-told m c =
    let s = c.args.sight.now in
    told_by _ c.in_err-statements-in-Some.field-0.0 _ c.from_residual.result c.from_residual.ensures.1 (λ e p. p)
    (told_same _ _ c.in_err-statements-in-Some.field-0.0
    (ap (λ xs. broken.statements s (tree'.statements_of (map tree.sequential_view xs))) c.deref.ensures.value
    ∙ by.otherwise_done s (tree.sequentials_view c.in-Some.list)
    ∙ ap (λ o. broken.otherwise s (tree'.otherwise_of (tree.option_sequentials_view o))) (sym c.in-Some.is))
    c.in_err-statements-in-Some.ensures.told)

pub case_parts-returns-in_err-all-clause-given : goal.case_parts-returns-in_err-all-clause-given
case_parts-returns-in_err-all-clause-given m c =
    let read = part.read c.args.sight.now c.args.selected (out-Case c.args.case.now).alternatives.items _ _ _ _ _ _ c.deref.ensures.value c.deref-2.ensures.value c.deref-3.ensures.value
    c.in_ok-lists.ensures c.alternatives-all.ensures.kept c.alternatives-all.ensures.given in
    passed_on _ _ c.in_err-all.field-0.0 _ c.from_residual-in_err-all.result c.from_residual-in_err-all.ensures.1 (λ e p. p)
    (λ n. part.parts_uncovered c.args.sight.now c.args.selected (tree.option_ident_view c.args.label.now) c.args.case.now c.alternatives-all.new.sight (cases.all_lists c.deref-3.result.now) c.alternatives-all.result read (λ found g h. c.in_err-all.ensures.given found g h n))

pub case_parts-returns-in_err-all-clause-told : goal.case_parts-returns-in_err-all-clause-told
case_parts-returns-in_err-all-clause-told m c =
    let read = part.read c.args.sight.now c.args.selected (out-Case c.args.case.now).alternatives.items _ _ _ _ _ _ c.deref.ensures.value c.deref-2.ensures.value c.deref-3.ensures.value
    c.in_ok-lists.ensures c.alternatives-all.ensures.kept c.alternatives-all.ensures.given in
    told_by _ c.in_err-all.field-0.0 _ c.from_residual-in_err-all.result c.from_residual-in_err-all.ensures.1 (λ e p. p)
    (part.parts_cover c.args.sight.now c.args.selected (tree.alternatives_view (out-Case c.args.case.now).alternatives) (tree.option_ident_view c.args.label.now)
    (tree.option_ident_view (out-Case c.args.case.now).end_label) (out-Case c.args.case.now).at c.in_err-all.field-0.0
    (part.read_told c.args.sight.now c.args.selected (out-Case c.args.case.now).alternatives.items _ _ _ read (out-Case c.args.case.now).at _ c.in_err-all.field-0.0
    c.deref-2.ensures.value c.alternatives-all.ensures.kept c.alternatives-all.ensures.told c.in_err-all.ensures.told))

pub case_parts-returns-in_err-all-2-clause-given : goal.case_parts-returns-in_err-all-2-clause-given
case_parts-returns-in_err-all-2-clause-given m c =
    let read = part.read c.args.sight.now c.args.selected (out-Case c.args.case.now).alternatives.items _ _ _ _ _ _ c.deref.ensures.value c.deref-2.ensures.value c.deref-3.ensures.value
    c.in_ok-lists.ensures c.alternatives-all.ensures.kept c.alternatives-all.ensures.given in
    passed_on _ _ c.in_err-all-2.field-0.0 _ c.from_residual-in_err-all-2.result c.from_residual-in_err-all-2.ensures.1 (λ e p. p)
    (λ n. part.parts_covered c.args.sight.now c.args.selected (tree.option_ident_view c.args.label.now) c.args.case.now c.alternatives-all.new.sight (cases.all_lists c.deref-3.result.now) c.alternatives-all.result read (alternatives_view c.in_ok-all.all) c.in_ok-all.ensures.given
    ∙ ap (λ o. o >> cases.arranged (alternatives_view c.in_ok-all.all)) (c.in_err-all-2.ensures.asked n))

pub case_parts-returns-in_err-all-2-clause-told : goal.case_parts-returns-in_err-all-2-clause-told
case_parts-returns-in_err-all-2-clause-told m c =
    let read = part.read c.args.sight.now c.args.selected (out-Case c.args.case.now).alternatives.items _ _ _ _ _ _ c.deref.ensures.value c.deref-2.ensures.value c.deref-3.ensures.value
    c.in_ok-lists.ensures c.alternatives-all.ensures.kept c.alternatives-all.ensures.given in
    told_by _ c.in_err-all-2.field-0.0 _ c.from_residual-in_err-all-2.result c.from_residual-in_err-all-2.ensures.1 (λ e p. p)
    (part.told_ends c.args.sight.now c.args.selected (tree.option_ident_view c.args.label.now) c.args.case.now c.alternatives-all.new.sight (cases.all_lists c.deref-3.result.now) c.alternatives-all.result read (alternatives_view c.in_ok-all.all) c.in_ok-all.ensures.given c.in_err-all-2.field-0.0 c.in_err-all-2.ensures.told)

pub case_parts-returns-clause-given : goal.case_parts-returns-clause-given
case_parts-returns-clause-given m c =
    let read = part.read c.args.sight.now c.args.selected (out-Case c.args.case.now).alternatives.items _ _ _ _ _ _ c.deref.ensures.value c.deref-2.ensures.value c.deref-3.ensures.value
    c.in_ok-lists.ensures c.alternatives-all.ensures.kept c.alternatives-all.ensures.given in
    gives_along _ _ _ _
    (part.parts_covered c.args.sight.now c.args.selected (tree.option_ident_view c.args.label.now) c.args.case.now c.alternatives-all.new.sight (cases.all_lists c.deref-3.result.now) c.alternatives-all.result read (alternatives_view c.in_ok-all.all) c.in_ok-all.ensures.given
    ∙ ap (λ o. o >> cases.arranged (alternatives_view c.in_ok-all.all)) c.in_ok-all-2.ensures.asked ∙ ap (λ v. cases.arranged (alternatives_view v)) (sym c.in_ok-all-2.ensures.same))
    c.arranged.ensures.given

pub case_parts-returns-clause-told : goal.case_parts-returns-clause-told
case_parts-returns-clause-told m c =
    let read = part.read c.args.sight.now c.args.selected (out-Case c.args.case.now).alternatives.items _ _ _ _ _ _ c.deref.ensures.value c.deref-2.ensures.value c.deref-3.ensures.value
    c.in_ok-lists.ensures c.alternatives-all.ensures.kept c.alternatives-all.ensures.given in
    told_on _ _ _
    (λ f h. part.told_none c.args.sight.now c.args.selected (tree.option_ident_view c.args.label.now) c.args.case.now c.alternatives-all.new.sight (cases.all_lists c.deref-3.result.now) c.alternatives-all.result read (alternatives_view c.in_ok-all.all) c.in_ok-all.ensures.given f c.in_ok-all-2.ensures.asked
    (told_same _ _ f (ap (λ v. any_alternative (out-Case c.args.case.now).at (alternatives_view v)) c.in_ok-all-2.ensures.same) h))
    c.arranged.ensures.told

pub statements-loop-item-init : goal.statements-loop-item-init
statements-loop-item-init m c =
    let all = steps.all_labelled c.args.sight.now (map tree.sequential_view c.args.list.now) in
    (refl, nothing_before all ∙ ap (λ ys. behind (map statement_view ys) all) (sym c.new-all.ensures.items), refl)

pub statements-returns-clause-given : goal.statements-returns-clause-given
statements-returns-clause-given m c =
    labelled_ends c.args.sight.now _ (statements_view c.loop-item.all) c.args.list.now c.loop-item.item-index c.loop-item.invariant.1 (omega arith)

pub branches-loop-item-init : goal.branches-loop-item-init
branches-loop-item-init m c = (refl, none_done tree.conditional_view c.args.list.now (steps.guarded c.args.sight.now) _ (ap (map branch_view) c.new-all.ensures.items), refl)

pub branches-returns-clause-given : goal.branches-returns-clause-given
branches-returns-clause-given m c = all_done tree.conditional_view c.args.list.now (steps.guarded c.args.sight.now) _ c.loop-item.item-index c.loop-item-test.false c.loop-item.invariant.1

pub alternatives-loop-item-init : goal.alternatives-loop-item-init
alternatives-loop-item-init m c = (refl, none_done tree.alternative_view c.args.list.now (cases.chosen c.args.sight.now c.args.selected) _ (ap (map alternative_view) c.new-all.ensures.items), refl)

pub alternatives-returns-clause-given : goal.alternatives-returns-clause-given
alternatives-returns-clause-given m c = all_done tree.alternative_view c.args.list.now (cases.chosen c.args.sight.now c.args.selected) _ c.loop-item.item-index c.loop-item-test.false c.loop-item.invariant.1
