use Rattle.std.proofs.Common.{◌≡◌, ℕ, not, ◌||◌, ◌&&◌, ◌+◌, Bool, List, take, refl, sym, ap, ◌∙◌, Option, Some, None, Vec, Global}
use Rattle.std.specs.List.{list_any, list_all}
use Rattle.std.proofs.lemmas.List.{take_all}
use Rattle.std.proofs.lemmas.Result.{on_ok_weaker}
use Rattle.rtl_model.specs.bodies.Body.{elements}
use Rattle.rtl_net.specs.declared.body.Expr.{Expr}
use Rattle.rtl_net.specs.declared.body.Statement.{Statement}
use Rattle.rtl_net.specs.declared.body.Statement.TheVariants as vs
use Rattle.rtl_net.specs.declared.body.Branch.{Branch}
use Rattle.rtl_net.specs.declared.body.Alternative.{Alternative}
use Rattle.rtl_net.specs.Bodies.{statement_view, statements_of, expr_view, value_view, test_view}
use Rattle.rtl_model.specs.bodies.Assigns.{is_element, stmt_must_assign, must_assign}
use Rattle.rtl_model.specs.bodies.Stored.{expr_looks_at, value_looks_at, test_looks_at, stmt_stores, stores_element}
use Rattle.rtl_model.specs.bodies.Leaves.{leaf_looks_at, expr_leaves, value_leaves}
use Rattle.rtl_model.proofs.bodies.Leaves.{leaves_tell}
use Rattle.rtl_body_facts.specs.Looks.{branch_assigns, alternative_assigns, branch_stores, alternative_stores}
use Rattle.rtl_body_facts.proofs.Anys.{or_none}
use Rattle.rtl_body_facts.proofs.EveryPath.{any_more, all_more}
use Rattle.rtl_body_facts.proofs.Parts.{assign_assigns, if_stores, if_assigns, if_alone_stores, if_alone_assigns, case_stores, case_assigns}
use Rattle.rtl_body_facts.specs.Reading.{is_in}
use Rattle.rtl_stored.specs.Walks.{never}
use Rattle.rtl_stored.proofs.Walking.{then_walked, as_walked, then_reads, as_reads, reads_walked, no_walk, no_reads, no_narrows, as_narrows, then_narrows, told_reads, fresh, fresh_there, part_reads, part_narrows, whole_walked}
use Rattle.rtl_stored.proofs.Sequences.{stores_more, assigns_more}
use Rattle.rtl_stored.proofs.walk.+walking.Goals as goal

-- what one expression stores, and another behind it
exprs_stored : (e : ℕ) (x y : Expr) → list_any (leaf_looks_at e) (expr_leaves (expr_view x)) || (not (never e) && list_any (leaf_looks_at e) (expr_leaves (expr_view y))) ≡ (expr_looks_at e (expr_view x) || expr_looks_at e (expr_view y))
exprs_stored e x y =
    let p = sym (leaves_tell.value_looks_are e (elements (expr_view x))) in
    let q = sym (leaves_tell.value_looks_are e (elements (expr_view y))) in
    λ i. p i || q i

pub walk_statements-loop-statement-init : goal.walk_statements-loop-statement-init
walk_statements-loop-statement-init t c = no_walk c.args.marks.now.marks.items c.args.added.now.items

pub walk_statements-loop-statement-preserved : goal.walk_statements-loop-statement-preserved
walk_statements-loop-statement-preserved t c =
    let l = c.loop-statement in
    let xs = c.args.statements.now in
    let x = c.statement-item.result in
    as_walked _ _ (λ e. sym (stores_more e xs l.statement-index x c.loop-statement-test.true c.statement-item.is))
    (λ e. sym (assigns_more e xs l.statement-index x c.loop-statement-test.true c.statement-item.is)) (then_walked l.invariant c.in_ok-walk_statement.ensures)

pub walk_statements-returns : goal.walk_statements-returns
walk_statements-returns t c =
    let l = c.loop-statement in
    let all = take_all l.statement-index c.args.statements.now c.loop-statement-test.false in
    as_walked _ _ (λ e. ap (λ (xs : List Statement). stores_element e (statements_of xs)) all)
    (λ e. ap (λ (xs : List Statement). must_assign (is_element e) (statements_of xs)) all) l.invariant

pub walk_statement-returns-in-Null : goal.walk_statement-returns-in-Null
walk_statement-returns-in-Null t c =
    as_walked _ _ (λ e. sym (ap (λ (s : Statement). stmt_stores e (statement_view s)) c.in-Null.is))
    (λ e. sym (ap (λ (s : Statement). stmt_must_assign (is_element e) (statement_view s)) c.in-Null.is)) (no_walk c.args.marks.now.marks.items c.args.added.now.items)

pub walk_statement-returns-in-Assign : goal.walk_statement-returns-in-Assign
walk_statement-returns-in-Assign t c =
    let v = value_view c.in-Assign.value in
    as_walked _ _ (λ e. sym (leaves_tell.value_looks_are e v) ∙ sym (ap (λ (s : Statement). stmt_stores e (statement_view s)) c.in-Assign.is))
    (λ e. sym (assign_assigns e c.args.statement.now c.in-Assign.places c.in-Assign.value c.in-Assign.is))
    (reads_walked c.args.added.now.items (told_reads _ _ _ c.walk_value.ensures))

pub walk_statement-returns-in-AssignAt : goal.walk_statement-returns-in-AssignAt
walk_statement-returns-in-AssignAt t c =
    let i = c.in-AssignAt in
    as_walked _ _ (λ e. exprs_stored e i.index i.value ∙ sym (ap (λ (s : Statement). stmt_stores e (statement_view s)) i.is))
    (λ e. sym (ap (λ (s : Statement). stmt_must_assign (is_element e) (statement_view s)) i.is))
    (then_walked (reads_walked c.args.added.now.items (told_reads _ _ _ c.walk_expr.ensures)) (reads_walked c.args.added.now.items (told_reads _ _ _ c.walk_expr-in-AssignAt.ensures)))

pub walk_statement-returns-in-SetAt : goal.walk_statement-returns-in-SetAt
walk_statement-returns-in-SetAt t c =
    let i = c.in-SetAt in
    as_walked _ _ (λ e. exprs_stored e i.index i.value ∙ sym (ap (λ (s : Statement). stmt_stores e (statement_view s)) i.is))
    (λ e. sym (ap (λ (s : Statement). stmt_must_assign (is_element e) (statement_view s)) i.is))
    (then_walked (reads_walked c.args.added.now.items (told_reads _ _ _ c.walk_expr-in-SetAt.ensures)) (reads_walked c.args.added.now.items (told_reads _ _ _ c.walk_expr-in-SetAt-2.ensures)))

pub walk_last-release-requires : goal.walk_last-release-requires
walk_last-release-requires t c = fresh_there c.deref.result.now c.new-added.ensures.items c.in_ok-walk_statements.ensures c.deref.ensures.value

pub walk_last-returns-clause-reads : goal.walk_last-returns-clause-reads
walk_last-returns-clause-reads t c = part_reads c.new-added.ensures.items c.in_ok-walk_statements.ensures c.deref.ensures.value c.release.ensures

pub walk_last-returns-clause-assigned : goal.walk_last-returns-clause-assigned
walk_last-returns-clause-assigned t c = fresh c.new-added.ensures.items c.in_ok-walk_statements.ensures

pub walk_part-release-requires : goal.walk_part-release-requires
walk_part-release-requires t c = fresh_there c.deref-2.result.now c.new-added.ensures.items c.in_ok-walk_statements.ensures c.deref-2.ensures.value

pub walk_part-returns-clause-reads : goal.walk_part-returns-clause-reads
walk_part-returns-clause-reads t c = part_reads c.new-added.ensures.items c.in_ok-walk_statements.ensures c.deref-2.ensures.value c.release.ensures

pub walk_part-returns-clause-assigned : goal.walk_part-returns-clause-assigned
walk_part-returns-clause-assigned t c =
    part_narrows c.args.common.items c.in_ok-common.common.items c.deref.result.now c.in_ok-walk_statements.ensures c.deref.ensures.value c.in_ok-common.ensures

pub walk_branches-loop-branch-init : goal.walk_branches-loop-branch-init
walk_branches-loop-branch-init t c = record { reads = no_reads c.args.marks.now.marks.items; narrows = no_narrows c.args.marks.now.marks.items c.args.common.items }

pub walk_branches-loop-branch-preserved : goal.walk_branches-loop-branch-preserved
walk_branches-loop-branch-preserved t c =
    let l = c.loop-branch in
    let bs = c.args.branches.now in
    let x = c.branch-item.result in
    let v = test_view x.test in
    let tested = as_reads (λ e. test_looks_at e v) (λ e. sym (leaves_tell.test_looks_are e v)) (told_reads _ _ _ c.walk_test.ensures) in
    let same : c.deref.result.now ≡ x.statements.items = c.deref.ensures.value in
    let part = as_reads (λ e. stores_element e (statements_of x.statements.items)) (λ e. ap (λ (xs : List Statement). stores_element e (statements_of xs)) same) c.in_ok-common.ensures.reads in
    record {
      reads = as_reads (λ e. list_any (branch_stores e) (take (l.branch-index + 1) bs))
          (λ e. sym (any_more (branch_stores e) bs l.branch-index x c.loop-branch-test.true c.branch-item.is)) (then_reads l.invariant.reads (then_reads tested part));
      narrows = as_narrows (λ e. list_all (branch_assigns e) (take (l.branch-index + 1) bs))
          (λ e. ap (λ (xs : List Statement). list_all (branch_assigns e) (take l.branch-index bs) && must_assign (is_element e) (statements_of xs)) same
          ∙ sym (all_more (branch_assigns e) bs l.branch-index x c.loop-branch-test.true c.branch-item.is))
          (then_narrows (then_reads l.invariant.reads tested) l.invariant.narrows c.in_ok-common.ensures.assigned);
    }

pub walk_branches-returns-clause-reads : goal.walk_branches-returns-clause-reads
walk_branches-returns-clause-reads t c =
    as_reads _ (λ e. ap (list_any (branch_stores e)) (take_all c.loop-branch.branch-index c.args.branches.now c.loop-branch-test.false)) c.loop-branch.invariant.reads

pub walk_branches-returns-clause-assigned : goal.walk_branches-returns-clause-assigned
walk_branches-returns-clause-assigned t c =
    as_narrows _ (λ e. ap (list_all (branch_assigns e)) (take_all c.loop-branch.branch-index c.args.branches.now c.loop-branch-test.false)) c.loop-branch.invariant.narrows

pub walk_alternatives-loop-alternative-init : goal.walk_alternatives-loop-alternative-init
walk_alternatives-loop-alternative-init t c = record { reads = no_reads c.args.marks.now.marks.items; narrows = no_narrows c.args.marks.now.marks.items c.args.common.items }

pub walk_alternatives-loop-alternative-preserved : goal.walk_alternatives-loop-alternative-preserved
walk_alternatives-loop-alternative-preserved t c =
    let l = c.loop-alternative in
    let bs = c.args.alternatives.now in
    let x = c.alternative-item.result in
    let same : c.deref.result.now ≡ x.statements.items = c.deref.ensures.value in
    let part = as_reads (λ e. stores_element e (statements_of x.statements.items)) (λ e. ap (λ (xs : List Statement). stores_element e (statements_of xs)) same) c.in_ok-common.ensures.reads in
    record {
      reads = as_reads (λ e. list_any (alternative_stores e) (take (l.alternative-index + 1) bs))
          (λ e. sym (any_more (alternative_stores e) bs l.alternative-index x c.loop-alternative-test.true c.alternative-item.is)) (then_reads l.invariant.reads part);
      narrows = as_narrows (λ e. list_all (alternative_assigns e) (take (l.alternative-index + 1) bs))
          (λ e. ap (λ (xs : List Statement). list_all (alternative_assigns e) (take l.alternative-index bs) && must_assign (is_element e) (statements_of xs)) same
          ∙ sym (all_more (alternative_assigns e) bs l.alternative-index x c.loop-alternative-test.true c.alternative-item.is))
          (then_narrows l.invariant.reads l.invariant.narrows c.in_ok-common.ensures.assigned);
    }

pub walk_alternatives-returns-clause-reads : goal.walk_alternatives-returns-clause-reads
walk_alternatives-returns-clause-reads t c =
    as_reads _ (λ e. ap (list_any (alternative_stores e)) (take_all c.loop-alternative.alternative-index c.args.alternatives.now c.loop-alternative-test.false)) c.loop-alternative.invariant.reads

pub walk_alternatives-returns-clause-assigned : goal.walk_alternatives-returns-clause-assigned
walk_alternatives-returns-clause-assigned t c =
    as_narrows _ (λ e. ap (list_all (alternative_assigns e)) (take_all c.loop-alternative.alternative-index c.args.alternatives.now c.loop-alternative-test.false))
    c.loop-alternative.invariant.narrows

pub walk_statement-returns-in-Set : goal.walk_statement-returns-in-Set
walk_statement-returns-in-Set t c =
    let v = value_view c.in-Set.value in
    let view = c.in-Set.is in
    on_ok_weaker c.assign_named.result
    (λ h. as_walked _ _ (λ e. sym (or_none (list_any (leaf_looks_at e) (value_leaves v))) ∙ (sym (leaves_tell.value_looks_are e v) ∙ sym (ap (λ (s : Statement). stmt_stores e (statement_view s)) view)))
    (λ e. sym (ap (λ (s : Statement). stmt_must_assign (is_element e) (statement_view s)) view))
    (then_walked (reads_walked c.args.added.now.items (told_reads _ _ _ c.walk_value-in-Set.ensures)) h))
    c.assign_named.ensures

pub walk_statement-returns-in_ok-common-in-Some-2 : goal.walk_statement-returns-in_ok-common-in-Some-2
walk_statement-returns-in_ok-common-in-Some-2 t c =
    let i = c.in-If in
    let st = c.args.statement.now in
    let last = c.in-Some.last in
    let is : st ≡ vs.If i.at i.branches (Some last) = i.is ∙ ap (λ (o : Option (Vec Statement Global)). vs.If i.at i.branches o) c.in-Some.is in
    on_ok_weaker c.assign_listed.result
    (λ h. as_walked _ _
    (λ e. ap (λ (bs : List Branch). list_any (branch_stores e) bs || stores_element e (statements_of c.deref.result.now)) c.deref-in-Some.ensures.value
    ∙ (ap (λ (xs : List Statement). list_any (branch_stores e) i.branches.items || stores_element e (statements_of xs)) c.deref.ensures.value ∙ sym (if_stores e st i.at i.branches last is)))
    (λ e. ap (λ (bs : List Branch). list_all (branch_assigns e) bs && must_assign (is_element e) (statements_of c.deref.result.now)) c.deref-in-Some.ensures.value
    ∙ (ap (λ (xs : List Statement). list_all (branch_assigns e) i.branches.items && must_assign (is_element e) (statements_of xs)) c.deref.ensures.value ∙ sym (if_assigns e st i.at i.branches last is)))
    (whole_walked _ _ c.in_ok-common-in-Some.common.items c.in_ok-common-in-Some-2.common.items (c.in_ok-common-in-Some).ensures.reads (c.in_ok-common-in-Some).ensures.assigned
    (c.in_ok-common-in-Some-2).ensures.reads (c.in_ok-common-in-Some-2).ensures.assigned (as_walked never _ (λ e. refl) (λ e. ap (is_in e) c.deref-in-Some-2.ensures.value) h)))
    c.assign_listed.ensures

pub walk_statement-returns-in_ok-walk_branches-in-None : goal.walk_statement-returns-in_ok-walk_branches-in-None
walk_statement-returns-in_ok-walk_branches-in-None t c =
    let i = c.in-If in
    let st = c.args.statement.now in
    let is : st ≡ vs.If i.at i.branches None = i.is ∙ ap (λ (o : Option (Vec Statement Global)). vs.If i.at i.branches o) c.in-None.is in
    as_walked _ _ (λ e. ap (list_any (branch_stores e)) c.deref-in-None.ensures.value ∙ sym (if_alone_stores e st i.at i.branches is)) (λ e. sym (if_alone_assigns e st i.at i.branches is))
    (reads_walked c.args.added.now.items (c.in_ok-walk_branches-in-None).ensures.reads)

pub walk_statement-returns-in_ok-common-in-Case-2 : goal.walk_statement-returns-in_ok-common-in-Case-2
walk_statement-returns-in_ok-common-in-Case-2 t c =
    let i = c.in-Case in
    let st = c.args.statement.now in
    let v = value_view i.selector in
    let told = told_reads _ _ _ c.walk_value-in-Case.ensures in
    on_ok_weaker c.assign_listed-in-Case.result
    (λ h. as_walked _ _
    (λ e. ap (λ (b : Bool). b || (list_any (alternative_stores e) c.deref-in-Case-2.result.now || stores_element e (statements_of c.deref-in-Case.result.now))) (sym (leaves_tell.value_looks_are e v))
    ∙ (ap (λ (bs : List Alternative). value_looks_at e v || (list_any (alternative_stores e) bs || stores_element e (statements_of c.deref-in-Case.result.now))) c.deref-in-Case-2.ensures.value
    ∙ (ap (λ (xs : List Statement). value_looks_at e v || (list_any (alternative_stores e) i.alternatives.items || stores_element e (statements_of xs))) c.deref-in-Case.ensures.value
    ∙ sym (case_stores e st i.at i.selector i.alternatives i.others i.is))))
    (λ e. ap (λ (bs : List Alternative). list_all (alternative_assigns e) bs && must_assign (is_element e) (statements_of c.deref-in-Case.result.now)) c.deref-in-Case-2.ensures.value
    ∙ (ap (λ (xs : List Statement). list_all (alternative_assigns e) i.alternatives.items && must_assign (is_element e) (statements_of xs)) c.deref-in-Case.ensures.value
    ∙ sym (case_assigns e st i.at i.selector i.alternatives i.others i.is)))
    (then_walked (reads_walked c.args.added.now.items told)
    (whole_walked _ _ c.in_ok-common-in-Case.common.items c.in_ok-common-in-Case-2.common.items (c.in_ok-common-in-Case).ensures.reads (c.in_ok-common-in-Case).ensures.assigned
    (c.in_ok-common-in-Case-2).ensures.reads (c.in_ok-common-in-Case-2).ensures.assigned (as_walked never _ (λ e. refl) (λ e. ap (is_in e) c.deref-in-Case-3.ensures.value) h))))
    c.assign_listed-in-Case.ensures
