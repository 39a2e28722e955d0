use Rattle.std.proofs.Common.{◌≡◌, List, Vec, Global, Option, Some, None, refl, sym, ap, ◌∙◌, arith}
use Rattle.std.proofs.lemmas.List.{take_all}
use Rattle.std.proofs.lemmas.Result.{on_ok_weaker}
use Rattle.rtl_model.specs.bodies.Body.{otherwise, no_else}
use Rattle.rtl_model.specs.bodies.Looks.{Looks, stmt_looks, body_looks}
use Rattle.rtl_net.specs.declared.body.Statement.{Statement}
use Rattle.rtl_net.specs.declared.body.Statement.TheVariants as vs
use Rattle.rtl_net.specs.Bodies.{test_view, statement_view, statements_of}
use Rattle.rtl_looks.proofs.Walking.{no_walk, as_walked, then_walked, sequence_more, parted, nothing_changed}
use Rattle.rtl_looks.proofs.Branching.{parts_same, parts_more, parts_beside, parts_last, branched, rounds, whole_walked, with_else, without_else, cased, branch_taken, branch_left, branch_walked, branches_end, if_is, if_alone_is, case_is, alternative_walked, alternatives_end}
use Rattle.rtl_looks.proofs.statements.+walking.Goals as goal

pub walk_statements-loop-statement-init : goal.walk_statements-loop-statement-init
walk_statements-loop-statement-init t c = no_walk c.args.round c.args.hubs.now.hubs.items c.args.env.now c.args.changes.now

pub walk_statements-loop-statement-preserved : goal.walk_statements-loop-statement-preserved
walk_statements-loop-statement-preserved t c =
    let l = c.loop-statement in
    as_walked _ (λ sights so_far s. ap (λ (f : Looks). f s) (sequence_more c.args.statements.now l.statement-index c.statement-item.result c.loop-statement-test.true c.statement-item.is sights so_far))
    (then_walked l.invariant c.in_ok-walk_statement.ensures)

pub walk_statements-returns : goal.walk_statements-returns
walk_statements-returns t c =
    let l = c.loop-statement in
    as_walked _ (λ sights so_far s. ap (λ (xs : List Statement). body_looks sights so_far (statements_of xs) s) (take_all l.statement-index c.args.statements.now c.loop-statement-test.false)) l.invariant

pub walk_part-returns-clause-parts : goal.walk_part-returns-clause-parts
walk_part-returns-clause-parts t c = on_ok_weaker c.take.result (λ h. h.parts) c.take.ensures

pub walk_part-returns-clause-parted : goal.walk_part-returns-clause-parted
walk_part-returns-clause-parted t c =
    on_ok_weaker c.take.result (λ h. parted (nothing_changed c.new-changes.result c.args.env.now c.new-changes.ensures.drivers c.new-changes.ensures.elements) c.in_ok-walk_statements.ensures h) c.take.ensures

pub walk_statement-returns-in-Assign : goal.walk_statement-returns-in-Assign
walk_statement-returns-in-Assign t c =
    on_ok_weaker c.walk_assignment.result
    (λ w. as_walked _ (λ sights so_far s. sym (ap (λ (x : Statement). stmt_looks sights so_far (statement_view x) s) c.in-Assign.is)) w) c.walk_assignment.ensures

pub walk_statement-returns-in-Set : goal.walk_statement-returns-in-Set
walk_statement-returns-in-Set t c =
    on_ok_weaker c.walk_assignment-in-Set.result
    (λ w. as_walked _ (λ sights so_far s. sym (ap (λ (x : Statement). stmt_looks sights so_far (statement_view x) s) c.in-Set.is)) w) c.walk_assignment-in-Set.ensures

pub walk_statement-returns-in-AssignAt : goal.walk_statement-returns-in-AssignAt
walk_statement-returns-in-AssignAt t c =
    on_ok_weaker c.walk_rows.result
    (λ w. as_walked _ (λ sights so_far s. sym (ap (λ (x : Statement). stmt_looks sights so_far (statement_view x) s) c.in-AssignAt.is)) w) c.walk_rows.ensures

pub walk_statement-returns-in-SetAt : goal.walk_statement-returns-in-SetAt
walk_statement-returns-in-SetAt t c =
    on_ok_weaker c.walk_rows-in-SetAt.result
    (λ w. as_walked _ (λ sights so_far s. sym (ap (λ (x : Statement). stmt_looks sights so_far (statement_view x) s) c.in-SetAt.is)) w) c.walk_rows-in-SetAt.ensures

pub walk_branch-returns-clause-branched : goal.walk_branch-returns-clause-branched
walk_branch-returns-clause-branched t c =
    let x = c.args.branch.now in
    let parted = c.in_ok-walk_part.ensures.parted in
    branched (statements_of x.statements.items) (rounds c.in_ok-test.ensures c.in_ok-round.ensures) (rw c.deref.ensures.value at parted)

pub walk_alternatives-loop-alternative-preserved : goal.walk_alternatives-loop-alternative-preserved
walk_alternatives-loop-alternative-preserved t c =
    let l = c.loop-alternative in
    let few = l.invariant.few in
    let one = c.in_ok-walk_part.ensures.parts in
    let part = rw c.deref.ensures.value at c.in_ok-walk_part.ensures.parted in
    record {
      parts = λ last. parts_beside _ (l.invariant.parts last) part
          (alternative_walked last c.args.alternatives.now l.alternative-index c.alternative-item.result c.loop-alternative-test.true c.alternative-item.is);
      few = omega arith;
    }

pub walk_alternatives-returns-clause-left : goal.walk_alternatives-returns-clause-left
walk_alternatives-returns-clause-left t c =
    λ last. parts_same _ (alternatives_end last c.args.alternatives.now c.loop-alternative.alternative-index c.loop-alternative-test.false) (c.loop-alternative.invariant.parts last)

pub walk_branches-returns-clause-left : goal.walk_branches-returns-clause-left
walk_branches-returns-clause-left t c =
    λ last. parts_same _ (branches_end last c.args.branches.now c.loop-branch.branch-index c.loop-branch-test.false) (c.loop-branch.invariant.parts last)

pub walk_branches-returns-in-Some-true-clause-left : goal.walk_branches-returns-in-Some-true-clause-left
walk_branches-returns-in-Some-true-clause-left t c =
    let l = c.loop-branch in
    let part = rw c.deref.ensures.value at c.in_ok-walk_part-in-Some-true.ensures.parted in
    λ last. parts_last (l.invariant.parts last) part
    (λ sights so_far s. branch_taken last c.args.branches.now l.branch-index c.branch-item.result c.loop-branch-test.true c.branch-item.is sights so_far s (sym c.decided.ensures ∙ (c.in-Some-true.is ∙ ap Some c.in-Some-true.field-0-test)))

pub walk_branches-loop-branch-preserved-in-Some-false : goal.walk_branches-loop-branch-preserved-in-Some-false
walk_branches-loop-branch-preserved-in-Some-false t c =
    let l = c.loop-branch in
    let few = l.invariant.few in
    record {
      parts = λ last. parts_same _
          (λ sights so_far s. branch_left last c.args.branches.now l.branch-index c.branch-item.result c.loop-branch-test.true c.branch-item.is sights so_far s
          (sym c.decided.ensures ∙ (c.in-Some-false.is ∙ ap Some c.in-Some-false.field-0-test))) (l.invariant.parts last);
      few = omega arith;
    }

pub walk_branches-loop-branch-preserved : goal.walk_branches-loop-branch-preserved
walk_branches-loop-branch-preserved t c =
    let l = c.loop-branch in
    let few = l.invariant.few in
    let one = c.in_ok-round-in-None.ensures.parts in
    record {
      parts = λ last. parts_more (test_view c.branch-item.result.test) _ (l.invariant.parts last) c.in_ok-round-in-None.ensures.branched
          (λ sights so_far s. branch_walked last c.args.branches.now l.branch-index c.branch-item.result c.loop-branch-test.true c.branch-item.is sights so_far s
          (sym c.decided.ensures ∙ c.in-None.is));
      few = omega arith;
    }

pub walk_statement-returns-in-If : goal.walk_statement-returns-in-If
walk_statement-returns-in-If t c =
    let i = c.in-If in
    let x = c.args.statement.now in
    let v = c.in-Some.last in
    let is : x ≡ vs.If i.at i.branches (Some v) = i.is ∙ ap (λ (o : Option (Vec Statement Global)). vs.If i.at i.branches o) c.in-Some.is in
    let s = statements_of c.deref-in-Some.result.now in
    on_ok_weaker c.finish.result
    (λ f. as_walked _ (λ sights so_far t. if_is x sights so_far t i.at i.branches v is c.deref.result.now c.deref-in-Some.result.now c.deref.ensures.value c.deref-in-Some.ensures.value)
    (whole_walked c.new-ends.ensures.parts c.new-ends.ensures.drivers c.new-ends.ensures.elements
    (with_else c.args.round c.args.hubs.now.hubs.items c.walk_branches.new.hubs.hubs.items c.args.env.now c.walk_branches.new.env c.new-ends.result c.walk_branches.new.ends c.deref.result.now s c.in_ok-rest-in-If.rest
    (c.in_ok-rest-in-If.ensures.left (otherwise s)) c.in_ok-walk_rest-in-Some.ensures) f))
    c.finish.ensures

pub walk_statement-returns-in-None : goal.walk_statement-returns-in-None
walk_statement-returns-in-None t c =
    let i = c.in-If in
    let x = c.args.statement.now in
    let is : x ≡ vs.If i.at i.branches None = i.is ∙ ap (λ (o : Option (Vec Statement Global)). vs.If i.at i.branches o) c.in-None.is in
    on_ok_weaker c.leave.result
    (λ f. as_walked _ (λ sights so_far t. if_alone_is x sights so_far t i.at i.branches is c.deref.result.now c.deref.ensures.value)
    (without_else c.args.round c.args.hubs.now.hubs.items c.walk_branches.new.hubs.hubs.items c.args.env.now c.walk_branches.new.env c.new-ends.result c.walk_branches.new.ends c.deref.result.now c.in_ok-rest-in-If.rest
    c.new-ends.ensures.parts c.new-ends.ensures.drivers c.new-ends.ensures.elements (c.in_ok-rest-in-If.ensures.left no_else) f))
    c.leave.ensures

pub walk_statement-returns : goal.walk_statement-returns
walk_statement-returns t c =
    let i = c.in-Case in
    let x = c.args.statement.now in
    let s = statements_of c.deref-in-Case-2.result.now in
    on_ok_weaker c.finish-in-Case.result
    (λ f. as_walked _ (λ sights so_far t. case_is x sights so_far t i.at i.selector i.alternatives i.others i.is c.deref-in-Case.result.now c.deref-in-Case-2.result.now c.deref-in-Case.ensures.value c.deref-in-Case-2.ensures.value)
    (cased c.in_ok-round-in-Case.ensures
    (whole_walked c.new-ends-in-Case.ensures.parts c.new-ends-in-Case.ensures.drivers c.new-ends-in-Case.ensures.elements
    (parts_last (c.in_ok-walk_alternatives-in-Case.ensures.left s) c.in_ok-walk_part-in-Case.ensures.parted (λ sights so_far t. refl)) f)))
    c.finish-in-Case.ensures
