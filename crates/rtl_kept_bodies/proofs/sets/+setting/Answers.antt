use Rattle.std.proofs.Common.{◌≡◌, ◌||◌, List, take, sym, ap, ◌∙◌, Option, Some, None, Vec, Global}
use Rattle.std.specs.List.{list_any}
use Rattle.std.proofs.lemmas.List.{take_all}
use Rattle.rtl_net.specs.declared.body.Statement.{Statement}
use Rattle.rtl_net.specs.declared.body.Statement.TheVariants as vs
use Rattle.rtl_net.specs.declared.body.Branch.{Branch}
use Rattle.rtl_net.specs.declared.body.Alternative.{Alternative}
use Rattle.rtl_net.specs.Bodies.{statement_view, statements_of}
use Rattle.rtl_net.specs.Indices.{numbers}
use Rattle.rtl_body_facts.proofs.EveryPath.{any_more}
use Rattle.rtl_model.specs.bodies.Assigns.{is_element, stmt_assigns, stmts_assign}
use Rattle.rtl_variable_registers.proofs.Straight.{none_of}
use Rattle.rtl_kept_bodies.specs.Steps.{branch_sets, alternative_sets}
use Rattle.rtl_kept_bodies.proofs.Marking.{marked_none, marked_as, marked_both, sets_more, if_sets, if_alone_sets, case_sets}
use Rattle.rtl_kept_bodies.proofs.sets.+setting.Goals as goal

pub mark_all_set-loop-statement-init : goal.mark_all_set-loop-statement-init
mark_all_set-loop-statement-init t c = marked_none c.args.marks.now

pub mark_all_set-loop-statement-preserved : goal.mark_all_set-loop-statement-preserved
mark_all_set-loop-statement-preserved t c =
    let l = c.loop-statement in
    marked_as _ _ _ _ (λ e. sets_more e c.args.statements.now l.statement-index c.statement-item.result c.loop-statement-test.true c.statement-item.is)
    (marked_both _ _ _ _ _ l.invariant c.mark_set.ensures)

pub mark_all_set-returns : goal.mark_all_set-returns
mark_all_set-returns t c =
    let l = c.loop-statement in
    marked_as _ _ _ _ (λ e. ap (λ (xs : List Statement). stmts_assign (is_element e) (statements_of xs)) (take_all l.statement-index c.args.statements.now c.loop-statement-test.false)) l.invariant

pub mark_branches-loop-branch-init : goal.mark_branches-loop-branch-init
mark_branches-loop-branch-init t c = marked_none c.args.marks.now

pub mark_branches-loop-branch-preserved : goal.mark_branches-loop-branch-preserved
mark_branches-loop-branch-preserved t c =
    let l = c.loop-branch in
    let bs = c.args.branches.now in
    marked_as _ _ _ _
    (λ e. ap (λ (xs : List Statement). list_any (branch_sets e) (take l.branch-index bs) || stmts_assign (is_element e) (statements_of xs)) c.deref.ensures.value
    ∙ sym (any_more (branch_sets e) bs l.branch-index c.branch-item.result c.loop-branch-test.true c.branch-item.is))
    (marked_both _ _ _ _ _ l.invariant c.mark_all_set.ensures)

pub mark_branches-returns : goal.mark_branches-returns
mark_branches-returns t c =
    let l = c.loop-branch in
    marked_as _ _ _ _ (λ e. ap (list_any (branch_sets e)) (take_all l.branch-index c.args.branches.now c.loop-branch-test.false)) l.invariant

pub mark_alternatives-loop-alternative-init : goal.mark_alternatives-loop-alternative-init
mark_alternatives-loop-alternative-init t c = marked_none c.args.marks.now

pub mark_alternatives-loop-alternative-preserved : goal.mark_alternatives-loop-alternative-preserved
mark_alternatives-loop-alternative-preserved t c =
    let l = c.loop-alternative in
    let bs = c.args.alternatives.now in
    marked_as _ _ _ _
    (λ e. ap (λ (xs : List Statement). list_any (alternative_sets e) (take l.alternative-index bs) || stmts_assign (is_element e) (statements_of xs)) c.deref.ensures.value
    ∙ sym (any_more (alternative_sets e) bs l.alternative-index c.alternative-item.result c.loop-alternative-test.true c.alternative-item.is))
    (marked_both _ _ _ _ _ l.invariant c.mark_all_set.ensures)

pub mark_alternatives-returns : goal.mark_alternatives-returns
mark_alternatives-returns t c =
    let l = c.loop-alternative in
    marked_as _ _ _ _ (λ e. ap (list_any (alternative_sets e)) (take_all l.alternative-index c.args.alternatives.now c.loop-alternative-test.false)) l.invariant

pub mark_set-returns-in-Null : goal.mark_set-returns-in-Null
mark_set-returns-in-Null t c = marked_as _ _ _ _ (λ e. sym (ap (λ (s : Statement). stmt_assigns (is_element e) (statement_view s)) c.in-Null.is)) (marked_none c.args.marks.now)

pub mark_set-returns-in-Assign : goal.mark_set-returns-in-Assign
mark_set-returns-in-Assign t c = marked_as _ _ _ _ (λ e. sym (ap (λ (s : Statement). stmt_assigns (is_element e) (statement_view s)) c.in-Assign.is ∙ none_of (numbers c.before.in-Assign.places))) (marked_none c.args.marks.now)

pub mark_set-returns-in-Set : goal.mark_set-returns-in-Set
mark_set-returns-in-Set t c = marked_as _ _ _ _ (λ e. sym (ap (λ (s : Statement). stmt_assigns (is_element e) (statement_view s)) c.in-Set.is)) c.mark_named.ensures

pub mark_set-returns-in-AssignAt : goal.mark_set-returns-in-AssignAt
mark_set-returns-in-AssignAt t c = marked_as _ _ _ _ (λ e. sym (ap (λ (s : Statement). stmt_assigns (is_element e) (statement_view s)) c.in-AssignAt.is ∙ none_of (numbers c.before.in-AssignAt.places))) (marked_none c.args.marks.now)

pub mark_set-returns-in-SetAt : goal.mark_set-returns-in-SetAt
mark_set-returns-in-SetAt t c = marked_as _ _ _ _ (λ e. sym (ap (λ (s : Statement). stmt_assigns (is_element e) (statement_view s)) c.in-SetAt.is)) c.mark_named-in-SetAt.ensures

pub mark_set-returns-in-Some : goal.mark_set-returns-in-Some
mark_set-returns-in-Some t c =
    let i = c.in-If in
    let last = c.in-Some.last in
    let is : c.args.statement.now ≡ vs.If i.at i.branches (Some last) = i.is ∙ ap (λ (o : Option (Vec Statement Global)). vs.If i.at i.branches o) c.in-Some.is in
    marked_as _ _ _ _
    (λ e. ap (λ (bs : List Branch). list_any (branch_sets e) bs || stmts_assign (is_element e) (statements_of c.deref-in-Some.result.now)) c.deref.ensures.value
    ∙ ap (λ (xs : List Statement). list_any (branch_sets e) i.branches.items || stmts_assign (is_element e) (statements_of xs)) c.deref-in-Some.ensures.value
    ∙ if_sets e c.args.statement.now i.at i.branches last is)
    (marked_both _ _ _ _ _ c.mark_branches.ensures c.mark_all_set.ensures)

pub mark_set-returns-in-None : goal.mark_set-returns-in-None
mark_set-returns-in-None t c =
    let i = c.in-If in
    let is : c.args.statement.now ≡ vs.If i.at i.branches None = i.is ∙ ap (λ (o : Option (Vec Statement Global)). vs.If i.at i.branches o) c.in-None.is in
    marked_as _ _ _ _ (λ e. ap (list_any (branch_sets e)) c.deref-in-None.ensures.value ∙ if_alone_sets e c.args.statement.now i.at i.branches is) c.mark_branches-in-None.ensures

pub mark_set-returns-in-Case : goal.mark_set-returns-in-Case
mark_set-returns-in-Case t c =
    let i = c.in-Case in
    marked_as _ _ _ _
    (λ e. ap (λ (bs : List Alternative). list_any (alternative_sets e) bs || stmts_assign (is_element e) (statements_of c.deref-in-Case-2.result.now)) c.deref-in-Case.ensures.value
    ∙ ap (λ (xs : List Statement). list_any (alternative_sets e) i.alternatives.items || stmts_assign (is_element e) (statements_of xs)) c.deref-in-Case-2.ensures.value
    ∙ case_sets e c.args.statement.now i.at i.selector i.alternatives i.others i.is)
    (marked_both _ _ _ _ _ c.mark_alternatives.ensures c.mark_all_set-in-Case.ensures)
