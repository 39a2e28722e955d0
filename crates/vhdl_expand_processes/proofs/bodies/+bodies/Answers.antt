use Rattle.std.proofs.Common.{[], ◌++◌, refl, ap, ◌∙◌}
use Rattle.std.specs.Prelude.{flat_map}
use Rattle.vhdl_names_units.specs.declared.sequential.If.{out-If}
use Rattle.vhdl_expand_processes.specs.Bodies.{statement_names, branch_names, last_names, alternative_names}
use Rattle.vhdl_expand_processes.proofs.Gathering.{nothing_more, adds_along, adds_both, left_next, left_none}
use Rattle.vhdl_expand_processes.proofs.Statements.{if_names, case_names, loop_names}
use Rattle.vhdl_expand_processes.proofs.bodies.+bodies.Goals as goal

pub of_statement-returns-in-Null : goal.of_statement-returns-in-Null
of_statement-returns-in-Null t c =
    nothing_more c.args.found.now _ (ap (statement_names c.args.sought) c.in-Null.is)

pub of_statement-returns-in-Assign : goal.of_statement-returns-in-Assign
of_statement-returns-in-Assign t c =
    adds_along c.args.found.now c.of_assignment.new.found _ _ (ap (statement_names c.args.sought) c.in-Assign.is) c.of_assignment.ensures

pub of_statement-returns-in-Set : goal.of_statement-returns-in-Set
of_statement-returns-in-Set t c =
    adds_along c.args.found.now c.of_set.new.found _ _ (ap (statement_names c.args.sought) c.in-Set.is) c.of_set.ensures

pub of_statement-returns-in-AssignIn : goal.of_statement-returns-in-AssignIn
of_statement-returns-in-AssignIn t c =
    adds_along c.args.found.now c.of_chosen_assignment.new.found _ _ (ap (statement_names c.args.sought) c.in-AssignIn.is) c.of_chosen_assignment.ensures

pub of_statement-returns-in-SetIn : goal.of_statement-returns-in-SetIn
of_statement-returns-in-SetIn t c =
    adds_along c.args.found.now c.of_chosen_set.new.found _ _ (ap (statement_names c.args.sought) c.in-SetIn.is) c.of_chosen_set.ensures

pub of_statement-returns-in-If : goal.of_statement-returns-in-If
of_statement-returns-in-If t c =
    adds_along c.args.found.now c.of_if.new.found _ _ (ap (statement_names c.args.sought) c.in-If.is ∙ if_names c.args.sought c.in-If.conditional) c.of_if.ensures

pub of_statement-returns-in-Case : goal.of_statement-returns-in-Case
of_statement-returns-in-Case t c =
    adds_along c.args.found.now c.of_case.new.found _ _ (ap (statement_names c.args.sought) c.in-Case.is ∙ case_names c.args.sought c.in-Case.selection) c.of_case.ensures

pub of_statements-loop-item-init : goal.of_statements-loop-item-init
of_statements-loop-item-init t c =
    λ n. (n, refl)

pub of_statements-loop-item-preserved : goal.of_statements-loop-item-preserved
of_statements-loop-item-preserved t c =
    left_next (statement_names c.args.sought) c.args.found.now c.args.list.now c.loop-item.found c.of_statement.new.found c.loop-item.item-index c.item-item.result c.loop-item-test.true c.item-item.is c.loop-item.invariant
    c.of_statement.ensures

pub of_statements-returns : goal.of_statements-returns
of_statements-returns t c =
    left_none (statement_names c.args.sought) c.args.found.now c.args.list.now c.loop-item.found c.loop-item.item-index c.loop-item-test.false c.loop-item.invariant

pub of_branches-loop-item-init : goal.of_branches-loop-item-init
of_branches-loop-item-init t c =
    λ n. (n, refl)

pub of_branches-returns : goal.of_branches-returns
of_branches-returns t c =
    left_none (branch_names c.args.sought) c.args.found.now c.args.list.now c.loop-item.found c.loop-item.item-index c.loop-item-test.false c.loop-item.invariant

pub of_alternatives-loop-item-init : goal.of_alternatives-loop-item-init
of_alternatives-loop-item-init t c =
    λ n. (n, refl)

pub of_alternatives-loop-item-preserved : goal.of_alternatives-loop-item-preserved
of_alternatives-loop-item-preserved t c =
    left_next (alternative_names c.args.sought) c.args.found.now c.args.list.now c.loop-item.found c.of_statements.new.found c.loop-item.item-index c.item-item.result c.loop-item-test.true c.item-item.is c.loop-item.invariant
    (rw c.deref.ensures.value at c.of_statements.ensures)

pub of_alternatives-returns : goal.of_alternatives-returns
of_alternatives-returns t c =
    left_none (alternative_names c.args.sought) c.args.found.now c.args.list.now c.loop-item.found c.loop-item.item-index c.loop-item-test.false c.loop-item.invariant

pub of_if-returns-in-None : goal.of_if-returns-in-None
of_if-returns-in-None t c =
    adds_both c.args.found.now c.of_branches.new.found c.of_branches.new.found _ [] _ (ap (λ o. flat_map (branch_names c.args.sought) (out-If c.args.conditional.now).branches.items ++ last_names c.args.sought o) c.in-None.is) (rw c.deref.ensures.value at c.of_branches.ensures) (nothing_more c.of_branches.new.found [] refl)

pub of_if-returns-in-Some : goal.of_if-returns-in-Some
of_if-returns-in-Some t c =
    adds_both c.args.found.now c.of_branches.new.found c.of_statements.new.found _ _ _ (ap (λ o. flat_map (branch_names c.args.sought) (out-If c.args.conditional.now).branches.items ++ last_names c.args.sought o) c.in-Some.is) (rw c.deref.ensures.value at c.of_branches.ensures) (rw c.deref-in-Some.ensures.value at c.of_statements.ensures)

pub of_case-returns : goal.of_case-returns
of_case-returns t c =
    adds_both c.args.found.now c.of_selector.new.found c.of_statements.new.found _ _ _ refl c.of_selector.ensures
    (adds_both c.of_selector.new.found c.of_alternatives.new.found c.of_statements.new.found _ _ _ refl (rw c.deref.ensures.value at c.of_alternatives.ensures) (rw c.deref-2.ensures.value at c.of_statements.ensures))

pub of_statement-returns-in-Loop : goal.of_statement-returns-in-Loop
of_statement-returns-in-Loop t c =
    adds_along c.args.found.now c.of_statements.new.found _ _ (ap (statement_names c.args.sought) c.in-Loop.is ∙ loop_names c.args.sought c.in-Loop.repeated) (rw c.deref.ensures.value at c.of_statements.ensures)

pub of_branches-loop-item-preserved : goal.of_branches-loop-item-preserved
of_branches-loop-item-preserved t c =
    left_next (branch_names c.args.sought) c.args.found.now c.args.list.now c.loop-item.found c.of_statements.new.found c.loop-item.item-index c.item-item.result c.loop-item-test.true c.item-item.is c.loop-item.invariant
    (adds_both c.loop-item.found c.of_condition.new.found c.of_statements.new.found _ _ _ refl c.of_condition.ensures (rw c.deref.ensures.value at c.of_statements.ensures))
