use Rattle.std.proofs.Common.{◌≡◌, ◌&&◌, ◌||◌, ◌++◌, refl, Bool, List, Option, Some, None, Vec, Global, ap, sym, ◌∙◌, ℕ}
use Rattle.std.specs.List.{list_any, list_all}
use Rattle.std.proofs.lemmas.List.{take_all}
use Rattle.std.proofs.lemmas.Result.{on_ok_weaker}
use Rattle.rtl_net.specs.declared.body.Statement.{Statement}
use Rattle.rtl_net.specs.declared.body.Statement.TheVariants as vs
use Rattle.rtl_net.specs.declared.body.Branch.{Branch}
use Rattle.rtl_net.specs.declared.body.Alternative.{Alternative}
use Rattle.rtl_net.specs.Bodies.{statements_of}
use Rattle.rtl_model.specs.bodies.Assigns.{must_assign}
use Rattle.rtl_body_facts.specs.Reading.{is_in}
use Rattle.rtl_body_facts.specs.Paths.{to_net, statement_covers, branch_covers, alternative_covers}
use Rattle.rtl_body_facts.proofs.EveryPath.{any_more, all_more, both_have, adds_none, adds_all, covers_sequence, set_covers, if_covers, if_alone_covers, case_covers}
use Rattle.rtl_body_facts.proofs.paths.+every_path.Goals as goal

pub common_with_alternatives-loop-alternative-preserved : goal.common_with_alternatives-loop-alternative-preserved
common_with_alternatives-loop-alternative-preserved t c =
    let l = c.loop-alternative in
    let ds = c.args.drives.now in
    λ n. both_have n c.in_ok-common.common.items _ _ l.common.items c.in_ok-nets.nets.items _ _ _ _ c.in_ok-common.ensures c.deref-in-loop-alternative.ensures.value c.deref-in-loop-alternative-2.ensures.value
    (l.invariant n) (c.in_ok-nets.ensures.are n ∙ ap (λ (xs : List Statement). must_assign (to_net ds n) (statements_of xs)) c.deref.ensures.value)
    (all_more (alternative_covers ds n) c.args.alternatives.now l.alternative-index c.alternative-item.result c.loop-alternative-test.true c.alternative-item.is)

pub common_with_branches-loop-branch-preserved : goal.common_with_branches-loop-branch-preserved
common_with_branches-loop-branch-preserved t c =
    let l = c.loop-branch in
    let ds = c.args.drives.now in
    λ n. both_have n c.in_ok-common.common.items _ _ l.common.items c.in_ok-nets.nets.items _ _ _ _ c.in_ok-common.ensures c.deref-in-loop-branch.ensures.value c.deref-in-loop-branch-2.ensures.value
    (l.invariant n) (c.in_ok-nets.ensures.are n ∙ ap (λ (xs : List Statement). must_assign (to_net ds n) (statements_of xs)) c.deref.ensures.value)
    (all_more (branch_covers ds n) c.args.branches.now l.branch-index c.branch-item.result c.loop-branch-test.true c.branch-item.is)

pub assigned_nets-returns-clause-are : goal.assigned_nets-returns-clause-are
assigned_nets-returns-clause-are t c =
    let l = c.loop-statement in
    let ds = c.args.drives.now in
    let xs = c.args.statements.now in
    λ n. c.sort_once.ensures.same n ∙ (l.invariant n ∙ (ap (list_any (statement_covers ds n)) (take_all l.statement-index xs c.loop-statement-test.false) ∙ sym (covers_sequence ds n xs)))

pub push_assigned-returns-in-Set : goal.push_assigned-returns-in-Set
push_assigned-returns-in-Set t c =
    λ n. adds_none n c.args.nets.now.items _ (set_covers c.args.drives.now n c.args.statement.now c.in-Set.elements c.in-Set.value c.in-Set.is)

pub push_assigned-returns-in_ok-extend_from_slice-in-Some : goal.push_assigned-returns-in_ok-extend_from_slice-in-Some
push_assigned-returns-in_ok-extend_from_slice-in-Some t c =
    let i = c.in-If in
    let ds = c.args.drives.now in
    let is : c.args.statement.now ≡ vs.If i.at i.branches (Some c.in-Some.last) = i.is ∙ ap (λ (o : Option (Vec Statement Global)). vs.If i.at i.branches o) c.in-Some.is in
    let common = c.in_ok-common-in-Some-2.common.items in
    λ n. adds_all n c.extend_from_slice.new.self.items c.args.nets.now.items common _
    ((c.in_ok-extend_from_slice-in-Some).ensures.items ∙ ap (λ (xs : List ℕ). c.args.nets.now.items ++ xs) c.deref-in-Some-2.ensures.value)
    (c.in_ok-common-in-Some-2.ensures n
    ∙ (ap (λ (b : Bool). list_all (branch_covers ds n) c.deref-in-Some.result.now && b)
    (c.in_ok-common-in-Some.ensures.are n ∙ ap (λ (xs : List Statement). must_assign (to_net ds n) (statements_of xs)) c.deref.ensures.value)
    ∙ (ap (λ (bs : List Branch). list_all (branch_covers ds n) bs && must_assign (to_net ds n) (statements_of c.in-Some.last.items)) c.deref-in-Some.ensures.value
    ∙ sym (if_covers ds n c.args.statement.now i.at i.branches c.in-Some.last is))))

pub push_assigned-returns-in-None : goal.push_assigned-returns-in-None
push_assigned-returns-in-None t c =
    let i = c.in-If in
    let is : c.args.statement.now ≡ vs.If i.at i.branches None = i.is ∙ ap (λ (o : Option (Vec Statement Global)). vs.If i.at i.branches o) c.in-None.is in
    λ n. adds_none n c.args.nets.now.items _ (if_alone_covers c.args.drives.now n c.args.statement.now i.at i.branches is)

pub push_assigned-returns-in_ok-extend_from_slice-in-Case : goal.push_assigned-returns-in_ok-extend_from_slice-in-Case
push_assigned-returns-in_ok-extend_from_slice-in-Case t c =
    let i = c.in-Case in
    let ds = c.args.drives.now in
    let common = c.in_ok-common-in-Case-2.common.items in
    λ n. adds_all n c.extend_from_slice-in-Case.new.self.items c.args.nets.now.items common _
    ((c.in_ok-extend_from_slice-in-Case).ensures.items ∙ ap (λ (xs : List ℕ). c.args.nets.now.items ++ xs) c.deref-in-Case-3.ensures.value)
    (c.in_ok-common-in-Case-2.ensures n
    ∙ (ap (λ (b : Bool). list_all (alternative_covers ds n) c.deref-in-Case-2.result.now && b)
    (c.in_ok-common-in-Case.ensures.are n ∙ ap (λ (xs : List Statement). must_assign (to_net ds n) (statements_of xs)) c.deref-in-Case.ensures.value)
    ∙ (ap (λ (bs : List Alternative). list_all (alternative_covers ds n) bs && must_assign (to_net ds n) (statements_of i.others.items)) c.deref-in-Case-2.ensures.value
    ∙ sym (case_covers ds n c.args.statement.now i.at i.selector i.alternatives i.others i.is))))

pub assigned_nets-loop-statement-init : goal.assigned_nets-loop-statement-init
assigned_nets-loop-statement-init t c = λ n. ap (is_in n) c.new-nets.ensures.items

pub assigned_nets-loop-statement-preserved : goal.assigned_nets-loop-statement-preserved
assigned_nets-loop-statement-preserved t c =
    let l = c.loop-statement in
    let f = statement_covers c.args.drives.now in
    λ n. c.in_ok-push_assigned.ensures n ∙ (ap (λ (b : Bool). b || f n c.statement-item.result) (l.invariant n)
    ∙ sym (any_more (f n) c.args.statements.now l.statement-index c.statement-item.result c.loop-statement-test.true c.statement-item.is))

pub common_with_branches-loop-branch-init : goal.common_with_branches-loop-branch-init
common_with_branches-loop-branch-init t c = λ n. refl

pub common_with_alternatives-loop-alternative-init : goal.common_with_alternatives-loop-alternative-init
common_with_alternatives-loop-alternative-init t c = λ n. refl

pub common_with_branches-returns : goal.common_with_branches-returns
common_with_branches-returns t c =
    let l = c.loop-branch in
    λ n. l.invariant n ∙ ap (λ (xs : List Branch). list_all (branch_covers c.args.drives.now n) xs && is_in n c.args.common.items) (take_all l.branch-index c.args.branches.now c.loop-branch-test.false)

pub common_with_alternatives-returns : goal.common_with_alternatives-returns
common_with_alternatives-returns t c =
    let l = c.loop-alternative in
    λ n. l.invariant n
    ∙ ap (λ (xs : List Alternative). list_all (alternative_covers c.args.drives.now n) xs && is_in n c.args.common.items) (take_all l.alternative-index c.args.alternatives.now c.loop-alternative-test.false)

pub push_assigned-returns-in-Null : goal.push_assigned-returns-in-Null
push_assigned-returns-in-Null t c = λ n. adds_none n c.args.nets.now.items _ (ap (statement_covers c.args.drives.now n) c.in-Null.is)

pub push_assigned-returns-in-Assign : goal.push_assigned-returns-in-Assign
push_assigned-returns-in-Assign t c =
    on_ok_weaker c.push_targets.result (λ h n. h n ∙ ap (λ (b : Bool). is_in n c.args.nets.now.items || b) (sym (ap (statement_covers c.args.drives.now n) c.in-Assign.is))) c.push_targets.ensures
