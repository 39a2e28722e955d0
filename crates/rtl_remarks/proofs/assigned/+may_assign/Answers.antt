use Rattle.std.proofs.Common.{◌≡◌, ◌||◌, ◌++◌, ℕ, Bool, List, Option, Some, None, Vec, Global, ap, sym, ◌∙◌}
use Rattle.std.specs.List.{list_any}
use Rattle.std.proofs.lemmas.List.{take_all}
use Rattle.std.proofs.lemmas.Result.{on_ok_weaker}
use Rattle.rtl_net.specs.declared.body.Statement.{Statement}
use Rattle.rtl_net.specs.declared.body.Statement.TheVariants as vs
use Rattle.rtl_net.specs.declared.body.Branch.{Branch}
use Rattle.rtl_net.specs.declared.body.Alternative.{Alternative}
use Rattle.rtl_net.specs.Bodies.{statements_of}
use Rattle.rtl_body_facts.specs.Reading.{is_in}
use Rattle.rtl_body_facts.proofs.Anys.{or_none}
use Rattle.rtl_body_facts.proofs.EveryPath.{any_more, goes_on, adds_all}
use Rattle.rtl_remarks.specs.Undefined.{may_assign}
use Rattle.rtl_remarks.specs.Tables.{statement_may, branch_may, alternative_may}
use Rattle.rtl_remarks.proofs.Meanwhile.{body_may, if_may, if_alone_may, case_may, adds_both, kept_running, kept_all}
use Rattle.rtl_remarks.proofs.assigned.+may_assign.Goals as goal

pub push_body-loop-statement-init : goal.push_body-loop-statement-init
push_body-loop-statement-init t c = λ n. or_none (is_in n c.args.nets.now.items)

pub push_body-loop-statement-preserved : goal.push_body-loop-statement-preserved
push_body-loop-statement-preserved t c =
    let l = c.loop-statement in
    let f = statement_may c.args.drives.now c.args.kept in
    λ n. goes_on _ _ _ _ _ _ (c.in_ok-push_statement.ensures n) (l.invariant n)
    (any_more (f n) c.args.statements.now l.statement-index c.statement-item.result c.loop-statement-test.true c.statement-item.is)

pub push_body-returns : goal.push_body-returns
push_body-returns t c =
    let l = c.loop-statement in
    let xs = c.args.statements.now in
    λ n. l.invariant n ∙ ap (λ (b : Bool). is_in n c.args.nets.now.items || b)
    (ap (list_any (statement_may c.args.drives.now c.args.kept n)) (take_all l.statement-index xs c.loop-statement-test.false) ∙ sym (body_may c.args.drives.now c.args.kept n xs))

pub push_branches-loop-branch-init : goal.push_branches-loop-branch-init
push_branches-loop-branch-init t c = λ n. or_none (is_in n c.args.nets.now.items)

pub push_branches-loop-branch-preserved : goal.push_branches-loop-branch-preserved
push_branches-loop-branch-preserved t c =
    let l = c.loop-branch in
    let f = branch_may c.args.drives.now c.args.kept in
    λ n. goes_on _ _ _ _ _ _ (c.in_ok-push_branch.ensures n) (l.invariant n)
    (any_more (f n) c.args.branches.now l.branch-index c.branch-item.result c.loop-branch-test.true c.branch-item.is)

pub push_branches-returns : goal.push_branches-returns
push_branches-returns t c =
    let l = c.loop-branch in
    λ n. l.invariant n
    ∙ ap (λ (xs : List Branch). is_in n c.args.nets.now.items || list_any (branch_may c.args.drives.now c.args.kept n) xs) (take_all l.branch-index c.args.branches.now c.loop-branch-test.false)

pub push_alternatives-loop-alternative-init : goal.push_alternatives-loop-alternative-init
push_alternatives-loop-alternative-init t c = λ n. or_none (is_in n c.args.nets.now.items)

pub push_alternatives-returns : goal.push_alternatives-returns
push_alternatives-returns t c =
    let l = c.loop-alternative in
    λ n. l.invariant n
    ∙ ap (λ (xs : List Alternative). is_in n c.args.nets.now.items || list_any (alternative_may c.args.drives.now c.args.kept n) xs)
    (take_all l.alternative-index c.args.alternatives.now c.loop-alternative-test.false)

pub push_branch-returns : goal.push_branch-returns
push_branch-returns t c =
    let ds = c.args.drives.now in
    let b = c.args.branch.now in
    λ n.
    adds_all n c.extend_from_slice.new.self.items c.args.nets.now.items c.in_ok-found.found.items _
    (c.in_ok-extend_from_slice.ensures.items ∙ ap (λ (xs : List ℕ). c.args.nets.now.items ++ xs) c.deref-5.ensures.value)
    (kept_running ds c.args.kept n b c.in_ok-found.found.items c.deref-3.result.now c.deref-4.result.now c.push_body-2.new.nets.items c.in_ok-failing.failing.items c.deref-2.result.now c.in_ok-found.ensures c.deref-3.ensures.value
    c.deref-4.ensures.value c.deref-2.ensures.value (c.in_ok-failing.ensures.are n) (c.in_ok-push_body.ensures n ∙ ap (λ (xs : List ℕ). is_in n xs || may_assign ds c.args.kept n (statements_of c.deref-2.result.now)) c.new-inner.ensures.items)
    c.if-kept.false)

pub push_branch-returns-then-kept : goal.push_branch-returns-then-kept
push_branch-returns-then-kept t c =
    let ds = c.args.drives.now in
    let b = c.args.branch.now in
    on_ok_weaker c.push_body.result
    (λ h n. h n ∙ ap (λ (xs : List Statement). is_in n c.args.nets.now.items || may_assign ds c.args.kept n (statements_of xs)) c.deref.ensures.value
    ∙ ap (λ x. is_in n c.args.nets.now.items || x) (kept_all ds c.args.kept n b c.if-kept.true))
    c.push_body.ensures

pub push_statement-returns-in-Some : goal.push_statement-returns-in-Some
push_statement-returns-in-Some t c =
    let i = c.in-If in
    let ds = c.args.drives.now in
    let k = c.args.kept in
    let is : c.args.statement.now ≡ vs.If i.at i.branches (Some c.in-Some.last) = i.is ∙ ap (λ (o : Option (Vec Statement Global)). vs.If i.at i.branches o) c.in-Some.is in
    on_ok_weaker c.push_body.result
    (λ h n.
    adds_both _ _ _ (list_any (branch_may ds k n) i.branches.items) (may_assign ds k n (statements_of c.in-Some.last.items)) _
    (h n ∙ ap (λ (xs : List Statement). is_in n c.push_branches.new.nets.items || may_assign ds k n (statements_of xs)) c.deref-in-Some.ensures.value)
    (c.in_ok-push_branches-in-If.ensures n ∙ ap (λ (bs : List Branch). is_in n c.args.nets.now.items || list_any (branch_may ds k n) bs) c.deref.ensures.value)
    (if_may ds k n c.args.statement.now i.at i.branches c.in-Some.last is))
    c.push_body.ensures

pub push_statement-returns-in-None : goal.push_statement-returns-in-None
push_statement-returns-in-None t c =
    let i = c.in-If in
    let ds = c.args.drives.now in
    let k = c.args.kept in
    let is : c.args.statement.now ≡ vs.If i.at i.branches None = i.is ∙ ap (λ (o : Option (Vec Statement Global)). vs.If i.at i.branches o) c.in-None.is in
    λ n. c.in_ok-push_branches-in-If.ensures n
    ∙ ap (λ (bs : List Branch). is_in n c.args.nets.now.items || list_any (branch_may ds k n) bs) c.deref.ensures.value
    ∙ ap (λ (b : Bool). is_in n c.args.nets.now.items || b) (sym (if_alone_may ds k n c.args.statement.now i.at i.branches is))

pub push_statement-returns-in_ok-push_alternatives-in-Case : goal.push_statement-returns-in_ok-push_alternatives-in-Case
push_statement-returns-in_ok-push_alternatives-in-Case t c =
    let i = c.in-Case in
    let ds = c.args.drives.now in
    let k = c.args.kept in
    on_ok_weaker c.push_body-in-Case.result
    (λ h n.
    adds_both _ _ _ (list_any (alternative_may ds k n) i.alternatives.items) (may_assign ds k n (statements_of i.others.items)) _
    (h n ∙ ap (λ (xs : List Statement). is_in n c.push_alternatives.new.nets.items || may_assign ds k n (statements_of xs)) c.deref-in-Case-2.ensures.value)
    (c.in_ok-push_alternatives-in-Case.ensures n ∙ ap (λ (bs : List Alternative). is_in n c.args.nets.now.items || list_any (alternative_may ds k n) bs) c.deref-in-Case.ensures.value)
    (case_may ds k n c.args.statement.now i.at i.selector i.alternatives i.others i.is))
    c.push_body-in-Case.ensures
