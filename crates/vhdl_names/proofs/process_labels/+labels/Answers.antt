use Rattle.std.proofs.Common.{arith, ◌≡◌, ◌<◌, ◌≤◌, ◌++◌, length, get_or, map, Some, refl, ap, sym, ◌∙◌}
use Rattle.std.proofs.lemmas.List.{at_drop_all}
use Rattle.vhdl_tree.specs.Tree as t
use Rattle.vhdl_tree.specs.View as tree
use Rattle.vhdl_tree.specs.declared.sequential.Case.{out-Case}
use Rattle.vhdl_tree.specs.declared.sequential.If.{out-If}
use Rattle.vhdl_names_rules.specs.Rules.{◌>>=◌}
use Rattle.vhdl_names_rules.specs.Statements.{inner_labels}
use Rattle.vhdl_names_rules.specs.problems.Broken.{Tells}
use Rattle.vhdl_names_rules.specs.problems.Labels as broken
use Rattle.vhdl_names_rules.specs.problems.Twice.{twice}
use Rattle.vhdl_names_rules.proofs.Telling.{told_same, told_on}
use Rattle.vhdl_names_rules.proofs.Along.{gives_along}
use Rattle.vhdl_names_units.specs.Lists.{in_turn}
use Rattle.vhdl_names_units.specs.Once.{names_view, one_name}
use Rattle.vhdl_names_statements.proofs.steps.Cases.{case_is}
use Rattle.vhdl_names_statements.proofs.steps.Sequential.{if_is, for_is}
use Rattle.vhdl_names.specs.steps.Labels as steps
use Rattle.vhdl_names.proofs.Labelling.{if_labels, case_labels, loop_labels}
use Rattle.vhdl_names.proofs.StandingTwice.{twice_before, twice_past, item_told, item_left, item_given, of_statement, of_statements, of_branch, of_branches, of_alternative, of_alternatives, statement_split, branch_split, alternative_split, statement_named, statements_listed, branches_listed}
use Rattle.vhdl_names_rules.proofs.Passing.{passed_on, told_by}
use Rattle.vhdl_names.proofs.Turns.{none_next}
use Rattle.vhdl_names.proofs.process_labels.+labels.Goals as goal

pub inside-returns-in-If-clause-given : goal.inside-returns-in-If-clause-given
inside-returns-in-If-clause-given m c =
    let ns = names_view c.args.taken.now in
    gives_along _ _ _ _ (ap (λ s. in_turn one_name ns (inner_labels (tree.statement_view s))) c.in-If.is ∙ if_labels ns c.in-If.conditional) c.of_if.ensures.given

pub inside-returns-in-Case-clause-given : goal.inside-returns-in-Case-clause-given
inside-returns-in-Case-clause-given m c =
    let ns = names_view c.args.taken.now in
    gives_along _ _ _ _ (ap (λ s. in_turn one_name ns (inner_labels (tree.statement_view s))) c.in-Case.is ∙ case_labels ns c.in-Case.case) c.of_case.ensures.given

pub inside-returns-in-For-clause-given : goal.inside-returns-in-For-clause-given
inside-returns-in-For-clause-given m c =
    let ns = names_view c.args.taken.now in
    gives_along _ _ _ _ (ap (λ s. in_turn one_name ns (inner_labels (tree.statement_view s))) c.in-For.is ∙ loop_labels ns c.in-For.repeated) c.of_loop.ensures.given

-- ---- what is given

pub of_statements-loop-item-init : goal.of_statements-loop-item-init
of_statements-loop-item-init m c = (refl, refl)

pub of_statements-returns-in_err-of_statement-clause-given : goal.of_statements-returns-in_err-of_statement-clause-given
of_statements-returns-in_err-of_statement-clause-given m c =
    let lt : c.loop-item.item-index < length c.args.list.now = omega arith in
    passed_on _ _ c.in_err-of_statement.field-0.0 _ c.from_residual.result c.from_residual.ensures.1 (λ e p. p)
    (λ n. none_next tree.sequential_view c.args.list.now c.loop-item.item-index c.item-item.result lt c.item-item.is steps.with_statement (names_view c.loop-item.taken) _ c.loop-item.invariant.0
    (c.in_err-of_statement.ensures.given n))

pub of_statements-returns-clause-given : goal.of_statements-returns-clause-given
of_statements-returns-clause-given m c =
    c.loop-item.invariant.0
    ∙ at_drop_all (λ l. in_turn steps.with_statement (names_view c.loop-item.taken) (map tree.sequential_view l)) c.args.list.now c.loop-item.item-index c.loop-item-test.false

pub of_branches-loop-item-init : goal.of_branches-loop-item-init
of_branches-loop-item-init m c = (refl, refl)

pub of_branches-returns-in_err-of_statements-clause-given : goal.of_branches-returns-in_err-of_statements-clause-given
of_branches-returns-in_err-of_statements-clause-given m c =
    let keys = names_view c.loop-item.taken in
    let lt : c.loop-item.item-index < length c.args.list.now = omega arith in
    passed_on _ _ c.in_err-of_statements.field-0.0 _ c.from_residual.result c.from_residual.ensures.1 (λ e p. p)
    (λ n. none_next tree.conditional_view c.args.list.now c.loop-item.item-index c.item-item.result lt c.item-item.is steps.with_branch keys _ c.loop-item.invariant.0
    (sym (ap (λ qs. steps.with_statements keys (map tree.sequential_view qs)) c.deref.ensures.value) ∙ c.in_err-of_statements.ensures.given n))

pub of_branches-returns-clause-given : goal.of_branches-returns-clause-given
of_branches-returns-clause-given m c =
    c.loop-item.invariant.0
    ∙ at_drop_all (λ l. in_turn steps.with_branch (names_view c.loop-item.taken) (map tree.conditional_view l)) c.args.list.now c.loop-item.item-index c.loop-item-test.false

pub of_case-loop-item-init : goal.of_case-loop-item-init
of_case-loop-item-init m c = (refl, refl)

pub of_case-returns-in_err-of_statements-clause-given : goal.of_case-returns-in_err-of_statements-clause-given
of_case-returns-in_err-of_statements-clause-given m c =
    let keys = names_view c.loop-item.taken in
    let xs = (out-Case c.args.case.now).alternatives.items in
    let i = c.loop-item.item-index in
    let x = c.item-item.result in
    let lt : c.loop-item.item-index < length ((out-Case c.args.case.now).alternatives.items) = omega (arith, ap length c.deref-item-items.ensures.value) in
    let is = c.item-item.is ∙ ap (λ ys. get_or ys i x) c.deref-item-items.ensures.value in
    passed_on _ _ c.in_err-of_statements.field-0.0 _ c.from_residual.result c.from_residual.ensures.1 (λ e p. p)
    (λ n. none_next tree.alternative_view xs i x lt is steps.with_alternative keys _ c.loop-item.invariant.0
    (sym (ap (λ qs. steps.with_statements keys (map tree.sequential_view qs)) c.deref.ensures.value) ∙ c.in_err-of_statements.ensures.given n))

pub of_case-returns-clause-given : goal.of_case-returns-clause-given
of_case-returns-clause-given m c =
    let xs = (out-Case c.args.case.now).alternatives.items in
    let past : length ((out-Case c.args.case.now).alternatives.items) ≤ c.loop-item.item-index = omega (arith, ap length c.deref-item-items.ensures.value) in
    c.loop-item.invariant.0 ∙ at_drop_all (λ l. in_turn steps.with_alternative (names_view c.loop-item.taken) (map tree.alternative_view l)) xs c.loop-item.item-index past

pub of_if-returns-in_err-of_branches-clause-given : goal.of_if-returns-in_err-of_branches-clause-given
of_if-returns-in_err-of_branches-clause-given m c =
    let old = names_view c.args.taken.now in
    let o = tree.option_sequentials_view (out-If c.args.conditional.now).otherwise in
    passed_on _ _ c.in_err-of_branches.field-0.0 _ c.from_residual.result c.from_residual.ensures.1 (λ e p. p)
    (λ n. ap (λ p. p >>= λ ms. steps.with_else ms o)
    (sym (ap (λ xs. in_turn steps.with_branch old (map tree.conditional_view xs)) c.deref.ensures.value) ∙ c.in_err-of_branches.ensures.given n))

pub of_if-returns-in-Some-clause-given : goal.of_if-returns-in-Some-clause-given
of_if-returns-in-Some-clause-given m c =
    let old = names_view c.args.taken.now in
    let new = names_view c.of_branches.new.taken in
    let o = tree.option_sequentials_view (out-If c.args.conditional.now).otherwise in
    gives_along _ _ _ _
    (ap (λ p. p >>= λ ms. steps.with_else ms o)
    (sym (ap (λ xs. in_turn steps.with_branch old (map tree.conditional_view xs)) c.deref.ensures.value) ∙ c.in_ok-of_branches.ensures.given)
    ∙ ap (λ x. steps.with_else new (tree.option_sequentials_view x)) c.in-Some.is
    ∙ ap (λ qs. steps.with_statements new (map tree.sequential_view qs)) (sym c.deref-in-Some.ensures.value))
    c.of_statements.ensures.given

-- ---- what is told

pub inside-returns-in-If-clause-told : goal.inside-returns-in-If-clause-told
inside-returns-in-If-clause-told m c =
    let ns = names_view c.args.taken.now in
    told_on _ _ c.of_if.result (λ f. told_same _ _ f (sym (ap (λ s. twice ns (broken.inner_labels (tree.statement_view s))) c.in-If.is ∙ ap (λ s. twice ns (broken.inner_labels s)) (if_is c.in-If.conditional)))) c.of_if.ensures.told

pub inside-returns-in-Case-clause-told : goal.inside-returns-in-Case-clause-told
inside-returns-in-Case-clause-told m c =
    let ns = names_view c.args.taken.now in
    told_on _ _ c.of_case.result (λ f. told_same _ _ f (sym (ap (λ s. twice ns (broken.inner_labels (tree.statement_view s))) c.in-Case.is ∙ ap (λ s. twice ns (broken.inner_labels s)) (case_is c.in-Case.case)))) c.of_case.ensures.told

pub inside-returns-in-For-clause-told : goal.inside-returns-in-For-clause-told
inside-returns-in-For-clause-told m c =
    let ns = names_view c.args.taken.now in
    told_on _ _ c.of_loop.result (λ f. told_same _ _ f (sym (ap (λ s. twice ns (broken.inner_labels (tree.statement_view s))) c.in-For.is ∙ ap (λ s. twice ns (broken.inner_labels s)) (for_is c.in-For.repeated)))) c.of_loop.ensures.told

pub of_statements-returns-in_err-of_statement-clause-told : goal.of_statements-returns-in_err-of_statement-clause-told
of_statements-returns-in_err-of_statement-clause-told m c =
    let old = names_view c.args.taken.now in
    let keys = names_view c.loop-item.taken in
    let xs = c.args.list.now in
    let i = c.loop-item.item-index in
    let x = c.item-item.result in
    let f = c.in_err-of_statement.field-0.0 in
    let lt : c.loop-item.item-index < length (c.args.list.now) = omega arith in
    let h : Tells (twice (names_view c.args.taken.now) (of_statements (map tree.sequential_view (c.args.list.now)))) c.in_err-of_statement.field-0.0 =
    item_told tree.sequential_view of_statement of_statements statement_split xs i x lt c.item-item.is old keys f c.loop-item.invariant.1 c.in_err-of_statement.ensures.told in
    told_by _ c.in_err-of_statement.field-0.0 _ c.from_residual.result c.from_residual.ensures.1 (λ e p. p) h

pub of_statements-loop-item-preserved : goal.of_statements-loop-item-preserved
of_statements-loop-item-preserved m c =
    let old = names_view c.args.taken.now in
    let keys = names_view c.loop-item.taken in
    let new = names_view c.of_statement.new.taken in
    let xs = c.args.list.now in
    let i = c.loop-item.item-index in
    let x = c.item-item.result in
    let lt : c.loop-item.item-index < length (c.args.list.now) = omega arith in
    let given : steps.with_statement (names_view c.loop-item.taken) (tree.sequential_view c.item-item.result) ≡ Some (names_view c.of_statement.new.taken) = c.in_ok-of_statement.ensures.given in (
      item_given tree.sequential_view of_statement of_statements statement_split xs i x lt c.item-item.is steps.with_statement old keys new c.loop-item.invariant.0 given,
      item_left tree.sequential_view of_statement of_statements statement_split xs i x lt c.item-item.is old keys new c.loop-item.invariant.1 (ap (in_turn one_name keys) (statement_named (tree.sequential_view x)) ∙ given),
    )

pub of_branches-returns-in_err-of_statements-clause-told : goal.of_branches-returns-in_err-of_statements-clause-told
of_branches-returns-in_err-of_statements-clause-told m c =
    let old = names_view c.args.taken.now in
    let keys = names_view c.loop-item.taken in
    let xs = c.args.list.now in
    let i = c.loop-item.item-index in
    let x = c.item-item.result in
    let f = c.in_err-of_statements.field-0.0 in
    let lt : c.loop-item.item-index < length (c.args.list.now) = omega arith in
    let h : Tells (twice (names_view c.args.taken.now) (of_branches (map tree.conditional_view (c.args.list.now)))) c.in_err-of_statements.field-0.0 =
    item_told tree.conditional_view of_branch of_branches branch_split xs i x lt c.item-item.is old keys f c.loop-item.invariant.1 (told_same _ _ f (ap (λ qs. twice keys (of_statements (map tree.sequential_view qs))) c.deref.ensures.value) c.in_err-of_statements.ensures.told) in
    told_by _ c.in_err-of_statements.field-0.0 _ c.from_residual.result c.from_residual.ensures.1 (λ e p. p) h

pub of_branches-loop-item-preserved : goal.of_branches-loop-item-preserved
of_branches-loop-item-preserved m c =
    let old = names_view c.args.taken.now in
    let keys = names_view c.loop-item.taken in
    let new = names_view c.of_statements.new.taken in
    let xs = c.args.list.now in
    let i = c.loop-item.item-index in
    let x = c.item-item.result in
    let lt : c.loop-item.item-index < length (c.args.list.now) = omega arith in
    let given : steps.with_branch (names_view c.loop-item.taken) (tree.conditional_view c.item-item.result) ≡ Some (names_view c.of_statements.new.taken) = sym (ap (λ qs. steps.with_statements (names_view c.loop-item.taken) (map tree.sequential_view qs)) c.deref.ensures.value) ∙ c.in_ok-of_statements.ensures.given in (
      item_given tree.conditional_view of_branch of_branches branch_split xs i x lt c.item-item.is steps.with_branch old keys new c.loop-item.invariant.0 given,
      item_left tree.conditional_view of_branch of_branches branch_split xs i x lt c.item-item.is old keys new c.loop-item.invariant.1 (statements_listed keys new (tree.conditional_view x).statements given),
    )

pub of_case-returns-in_err-of_statements-clause-told : goal.of_case-returns-in_err-of_statements-clause-told
of_case-returns-in_err-of_statements-clause-told m c =
    let old = names_view c.args.taken.now in
    let keys = names_view c.loop-item.taken in
    let xs = (out-Case c.args.case.now).alternatives.items in
    let i = c.loop-item.item-index in
    let x = c.item-item.result in
    let f = c.in_err-of_statements.field-0.0 in
    let lt : c.loop-item.item-index < length ((out-Case c.args.case.now).alternatives.items) = omega (arith, ap length c.deref-item-items.ensures.value) in
    let is = c.item-item.is ∙ ap (λ ys. get_or ys i x) c.deref-item-items.ensures.value in
    let h : Tells (twice (names_view c.args.taken.now) (of_alternatives (map tree.alternative_view ((out-Case c.args.case.now).alternatives.items)))) c.in_err-of_statements.field-0.0 =
    item_told tree.alternative_view of_alternative of_alternatives alternative_split xs i x lt is old keys f c.loop-item.invariant.1 (told_same _ _ f (ap (λ qs. twice keys (of_statements (map tree.sequential_view qs))) c.deref.ensures.value) c.in_err-of_statements.ensures.told) in
    told_by _ c.in_err-of_statements.field-0.0 _ c.from_residual.result c.from_residual.ensures.1 (λ e p. p) h

pub of_case-loop-item-preserved : goal.of_case-loop-item-preserved
of_case-loop-item-preserved m c =
    let old = names_view c.args.taken.now in
    let keys = names_view c.loop-item.taken in
    let new = names_view c.of_statements.new.taken in
    let xs = (out-Case c.args.case.now).alternatives.items in
    let i = c.loop-item.item-index in
    let x = c.item-item.result in
    let lt : c.loop-item.item-index < length ((out-Case c.args.case.now).alternatives.items) = omega (arith, ap length c.deref-item-items.ensures.value) in
    let is = c.item-item.is ∙ ap (λ ys. get_or ys i x) c.deref-item-items.ensures.value in
    let given : steps.with_alternative (names_view c.loop-item.taken) (tree.alternative_view c.item-item.result) ≡ Some (names_view c.of_statements.new.taken) = sym (ap (λ qs. steps.with_statements (names_view c.loop-item.taken) (map tree.sequential_view qs)) c.deref.ensures.value) ∙ c.in_ok-of_statements.ensures.given in (
      item_given tree.alternative_view of_alternative of_alternatives alternative_split xs i x lt is steps.with_alternative old keys new c.loop-item.invariant.0 given,
      item_left tree.alternative_view of_alternative of_alternatives alternative_split xs i x lt is old keys new c.loop-item.invariant.1 (statements_listed keys new (tree.alternative_view x).statements given),
    )

pub of_if-returns-in_err-of_branches-clause-told : goal.of_if-returns-in_err-of_branches-clause-told
of_if-returns-in_err-of_branches-clause-told m c =
    let old = names_view c.args.taken.now in
    let bs = tree.conditionals_view (out-If c.args.conditional.now).branches in
    let o = broken.otherwise_labels (t.otherwise_of (tree.option_sequentials_view (out-If c.args.conditional.now).otherwise)) in
    let f = c.in_err-of_branches.field-0.0 in
    let h : Tells (twice (names_view c.args.taken.now) (of_branches (tree.conditionals_view (out-If c.args.conditional.now).branches)
    ++ broken.otherwise_labels (t.otherwise_of (tree.option_sequentials_view (out-If c.args.conditional.now).otherwise)))) c.in_err-of_branches.field-0.0 =
    twice_before old (of_branches bs) o f
    (told_same _ _ f (ap (λ xs. twice old (of_branches (map tree.conditional_view xs))) c.deref.ensures.value) c.in_err-of_branches.ensures.told) in
    told_by _ c.in_err-of_branches.field-0.0 _ c.from_residual.result c.from_residual.ensures.1 (λ e p. p) h

pub of_if-returns-in-Some-clause-told : goal.of_if-returns-in-Some-clause-told
of_if-returns-in-Some-clause-told m c =
    let old = names_view c.args.taken.now in
    let new = names_view c.of_branches.new.taken in
    let bs = tree.conditionals_view (out-If c.args.conditional.now).branches in
    let o = broken.otherwise_labels (t.otherwise_of (tree.option_sequentials_view (out-If c.args.conditional.now).otherwise)) in
    told_on _ _ c.of_statements.result (λ f. told_same _ _ f
    (ap (λ qs. twice new (of_statements (map tree.sequential_view qs))) c.deref-in-Some.ensures.value
    ∙ sym (ap (λ x. twice new (broken.otherwise_labels (t.otherwise_of (tree.option_sequentials_view x)))) c.in-Some.is)
    ∙ sym (twice_past old (of_branches bs) o new
    (branches_listed old new bs (sym (ap (λ xs. in_turn steps.with_branch old (map tree.conditional_view xs)) c.deref.ensures.value) ∙ c.in_ok-of_branches.ensures.given))))) c.of_statements.ensures.told
