use Rattle.std.proofs.Common.{◌≡◌, refl, List, Option, Some, None, Vec, Global, ap, sym, ◌∙◌}
use Rattle.std.specs.List.{list_all}
use Rattle.rtl_net.specs.declared.body.Statement.{Statement}
use Rattle.rtl_net.specs.declared.body.Statement.TheVariants as vs
use Rattle.rtl_net.specs.Bodies.{statements_of}
use Rattle.rtl_model.specs.bodies.Assigns.{must_assign, is_element}
use Rattle.rtl_body_facts.specs.Looks.{statement_assigned, branch_assigns, alternative_assigns}
use Rattle.rtl_body_facts.proofs.Anys.{any_found, any_next, any_end, all_lost, all_next, all_end, first_false, and_rest}
use Rattle.rtl_body_facts.proofs.Parts.{must_is_any, assign_assigns, if_assigns, if_alone_assigns, case_assigns}
use Rattle.rtl_body_facts.proofs.assigned.+assigned.Goals as goal

pub all_assign-returns-then-statement_assigns : goal.all_assign-returns-then-statement_assigns
all_assign-returns-then-statement_assigns t c =
    let e = c.args.element in
    let xs = c.args.statements.now in
    any_found (statement_assigned e) xs c.loop-statement.statement-index c.statement-item.result c.loop-statement-test.true c.statement-item.is c.loop-statement.invariant
    (sym c.statement_assigns.ensures ∙ c.if-statement_assigns.true) ∙ sym (must_is_any e xs)

pub all_assign-returns : goal.all_assign-returns
all_assign-returns t c =
    let e = c.args.element in
    let xs = c.args.statements.now in
    any_end (statement_assigned e) xs c.loop-statement.statement-index c.loop-statement-test.false c.loop-statement.invariant ∙ sym (must_is_any e xs)

pub statement_assigns-returns-in-Assign : goal.statement_assigns-returns-in-Assign
statement_assigns-returns-in-Assign t c = sym (assign_assigns c.args.element c.args.statement.now c.in-Assign.places c.in-Assign.value c.in-Assign.is)

pub statement_assigns-returns-then-all_branches_assign : goal.statement_assigns-returns-then-all_branches_assign
statement_assigns-returns-then-all_branches_assign t c =
    let e = c.args.element in
    let i = c.in-If in
    let is : c.args.statement.now ≡ vs.If i.at i.branches (Some c.in-Some.last) = i.is ∙ ap (λ (o : Option (Vec Statement Global)). vs.If i.at i.branches o) c.in-Some.is in
    and_rest c.all_branches_assign.result _ _ _ _ (c.all_branches_assign.ensures ∙ ap (list_all (branch_assigns e)) c.deref.ensures.value) c.if-all_branches_assign.true
    (if_assigns e c.args.statement.now i.at i.branches c.in-Some.last is)
    (c.all_assign.ensures ∙ ap (λ (xs : List Statement). must_assign (is_element e) (statements_of xs)) c.deref-then-all_branches_assign.ensures.value)

pub statement_assigns-returns-else-all_branches_assign : goal.statement_assigns-returns-else-all_branches_assign
statement_assigns-returns-else-all_branches_assign t c =
    let e = c.args.element in
    let i = c.in-If in
    let is : c.args.statement.now ≡ vs.If i.at i.branches (Some c.in-Some.last) = i.is ∙ ap (λ (o : Option (Vec Statement Global)). vs.If i.at i.branches o) c.in-Some.is in
    first_false _ _ _ _ (c.all_branches_assign.ensures ∙ ap (list_all (branch_assigns e)) c.deref.ensures.value) c.if-all_branches_assign.false
    (if_assigns e c.args.statement.now i.at i.branches c.in-Some.last is)

pub statement_assigns-returns-in-None : goal.statement_assigns-returns-in-None
statement_assigns-returns-in-None t c =
    let i = c.in-If in
    let is : c.args.statement.now ≡ vs.If i.at i.branches None = i.is ∙ ap (λ (o : Option (Vec Statement Global)). vs.If i.at i.branches o) c.in-None.is in
    sym (if_alone_assigns c.args.element c.args.statement.now i.at i.branches is)

pub statement_assigns-returns-then-all_alternatives_assign : goal.statement_assigns-returns-then-all_alternatives_assign
statement_assigns-returns-then-all_alternatives_assign t c =
    let e = c.args.element in
    let i = c.in-Case in
    and_rest c.all_alternatives_assign.result _ _ _ _ (c.all_alternatives_assign.ensures ∙ ap (list_all (alternative_assigns e)) c.deref-in-Case.ensures.value)
    c.if-all_alternatives_assign.true (case_assigns e c.args.statement.now i.at i.selector i.alternatives i.others i.is)
    (c.all_assign-then-all_alternatives_assign.ensures ∙ ap (λ (xs : List Statement). must_assign (is_element e) (statements_of xs)) c.deref-then-all_alternatives_assign.ensures.value)

pub statement_assigns-returns-else-all_alternatives_assign : goal.statement_assigns-returns-else-all_alternatives_assign
statement_assigns-returns-else-all_alternatives_assign t c =
    let e = c.args.element in
    let i = c.in-Case in
    first_false _ _ _ _ (c.all_alternatives_assign.ensures ∙ ap (list_all (alternative_assigns e)) c.deref-in-Case.ensures.value) c.if-all_alternatives_assign.false
    (case_assigns e c.args.statement.now i.at i.selector i.alternatives i.others i.is)

pub all_assign-loop-statement-init : goal.all_assign-loop-statement-init
all_assign-loop-statement-init t c = refl

pub all_assign-loop-statement-preserved : goal.all_assign-loop-statement-preserved
all_assign-loop-statement-preserved t c =
    any_next (statement_assigned c.args.element) c.args.statements.now c.loop-statement.statement-index c.statement-item.result c.loop-statement-test.true c.statement-item.is c.loop-statement.invariant
    (sym c.statement_assigns.ensures ∙ c.if-statement_assigns.false)

pub all_branches_assign-loop-branch-init : goal.all_branches_assign-loop-branch-init
all_branches_assign-loop-branch-init t c = refl

pub all_branches_assign-returns-then-not-all_assign : goal.all_branches_assign-returns-then-not-all_assign
all_branches_assign-returns-then-not-all_assign t c =
    all_lost (branch_assigns c.args.element) c.args.branches.now c.loop-branch.branch-index c.branch-item.result c.loop-branch-test.true c.branch-item.is c.loop-branch.invariant
    (sym (c.all_assign.ensures ∙ ap (λ (xs : List Statement). must_assign (is_element c.args.element) (statements_of xs)) c.deref.ensures.value) ∙ c.if-not-all_assign.true)

pub all_branches_assign-loop-branch-preserved : goal.all_branches_assign-loop-branch-preserved
all_branches_assign-loop-branch-preserved t c =
    all_next (branch_assigns c.args.element) c.args.branches.now c.loop-branch.branch-index c.branch-item.result c.loop-branch-test.true c.branch-item.is c.loop-branch.invariant
    (sym (c.all_assign.ensures ∙ ap (λ (xs : List Statement). must_assign (is_element c.args.element) (statements_of xs)) c.deref.ensures.value) ∙ c.if-not-all_assign.false)

pub all_branches_assign-returns : goal.all_branches_assign-returns
all_branches_assign-returns t c = all_end (branch_assigns c.args.element) c.args.branches.now c.loop-branch.branch-index c.loop-branch-test.false c.loop-branch.invariant

pub all_alternatives_assign-loop-alternative-init : goal.all_alternatives_assign-loop-alternative-init
all_alternatives_assign-loop-alternative-init t c = refl

pub all_alternatives_assign-returns-then-not-all_assign : goal.all_alternatives_assign-returns-then-not-all_assign
all_alternatives_assign-returns-then-not-all_assign t c =
    all_lost (alternative_assigns c.args.element) c.args.alternatives.now c.loop-alternative.alternative-index c.alternative-item.result c.loop-alternative-test.true c.alternative-item.is c.loop-alternative.invariant
    (sym (c.all_assign.ensures ∙ ap (λ (xs : List Statement). must_assign (is_element c.args.element) (statements_of xs)) c.deref.ensures.value) ∙ c.if-not-all_assign.true)

pub all_alternatives_assign-loop-alternative-preserved : goal.all_alternatives_assign-loop-alternative-preserved
all_alternatives_assign-loop-alternative-preserved t c =
    all_next (alternative_assigns c.args.element) c.args.alternatives.now c.loop-alternative.alternative-index c.alternative-item.result c.loop-alternative-test.true c.alternative-item.is c.loop-alternative.invariant
    (sym (c.all_assign.ensures ∙ ap (λ (xs : List Statement). must_assign (is_element c.args.element) (statements_of xs)) c.deref.ensures.value) ∙ c.if-not-all_assign.false)

pub all_alternatives_assign-returns : goal.all_alternatives_assign-returns
all_alternatives_assign-returns t c = all_end (alternative_assigns c.args.element) c.args.alternatives.now c.loop-alternative.alternative-index c.loop-alternative-test.false c.loop-alternative.invariant
