use Rattle.std.proofs.Common.{◌≡◌, refl, List, Option, Some, None, Vec, Global, ap, sym, ◌∙◌}
use Rattle.std.specs.List.{list_all}
use Rattle.rtl_net.specs.declared.body.Statement.{Statement}
use Rattle.rtl_net.specs.declared.body.Statement.TheVariants as vs
use Rattle.rtl_net.specs.Bodies.{statements_of}
use Rattle.rtl_model.specs.bodies.Assigns.{must_assign}
use Rattle.rtl_body_facts.specs.Paths.{to_net, statement_covers, branch_covers, alternative_covers}
use Rattle.rtl_body_facts.proofs.Anys.{any_found, any_next, any_end, all_lost, all_next, all_end, first_false, and_rest}
use Rattle.rtl_body_facts.proofs.EveryPath.{covers_sequence, set_covers, if_covers, if_alone_covers, case_covers}
use Rattle.rtl_latches.proofs.paths.+covering.Goals as goal

pub covers-returns-then-statement_covers : goal.covers-returns-then-statement_covers
covers-returns-then-statement_covers t c =
    let ds = c.args.drives.now in
    let n = c.args.net in
    let xs = c.args.statements.now in
    any_found (statement_covers ds n) xs c.loop-statement.statement-index c.statement-item.result c.loop-statement-test.true c.statement-item.is c.loop-statement.invariant
    (sym c.statement_covers.ensures ∙ c.if-statement_covers.true) ∙ sym (covers_sequence ds n xs)

pub covers-returns : goal.covers-returns
covers-returns t c =
    let ds = c.args.drives.now in
    let n = c.args.net in
    let xs = c.args.statements.now in
    any_end (statement_covers ds n) xs c.loop-statement.statement-index c.loop-statement-test.false c.loop-statement.invariant ∙ sym (covers_sequence ds n xs)

pub statement_covers-returns-in-Set : goal.statement_covers-returns-in-Set
statement_covers-returns-in-Set t c = sym (set_covers c.args.drives.now c.args.net c.args.statement.now c.in-Set.elements c.in-Set.value c.in-Set.is)

pub statement_covers-returns-then-branches_cover : goal.statement_covers-returns-then-branches_cover
statement_covers-returns-then-branches_cover t c =
    let ds = c.args.drives.now in
    let n = c.args.net in
    let i = c.in-If in
    let is : c.args.statement.now ≡ vs.If i.at i.branches (Some c.in-Some.last) = i.is ∙ ap (λ (o : Option (Vec Statement Global)). vs.If i.at i.branches o) c.in-Some.is in
    and_rest c.branches_cover.result _ _ _ _ (c.branches_cover.ensures ∙ ap (list_all (branch_covers ds n)) c.deref.ensures.value) c.if-branches_cover.true
    (if_covers ds n c.args.statement.now i.at i.branches c.in-Some.last is)
    (c.covers.ensures ∙ ap (λ (xs : List Statement). must_assign (to_net ds n) (statements_of xs)) c.deref-then-branches_cover.ensures.value)

pub statement_covers-returns-else-branches_cover : goal.statement_covers-returns-else-branches_cover
statement_covers-returns-else-branches_cover t c =
    let ds = c.args.drives.now in
    let n = c.args.net in
    let i = c.in-If in
    let is : c.args.statement.now ≡ vs.If i.at i.branches (Some c.in-Some.last) = i.is ∙ ap (λ (o : Option (Vec Statement Global)). vs.If i.at i.branches o) c.in-Some.is in
    first_false _ _ _ _ (c.branches_cover.ensures ∙ ap (list_all (branch_covers ds n)) c.deref.ensures.value) c.if-branches_cover.false
    (if_covers ds n c.args.statement.now i.at i.branches c.in-Some.last is)

pub statement_covers-returns-in-None : goal.statement_covers-returns-in-None
statement_covers-returns-in-None t c =
    let i = c.in-If in
    let is : c.args.statement.now ≡ vs.If i.at i.branches None = i.is ∙ ap (λ (o : Option (Vec Statement Global)). vs.If i.at i.branches o) c.in-None.is in
    sym (if_alone_covers c.args.drives.now c.args.net c.args.statement.now i.at i.branches is)

pub statement_covers-returns-then-alternatives_cover : goal.statement_covers-returns-then-alternatives_cover
statement_covers-returns-then-alternatives_cover t c =
    let ds = c.args.drives.now in
    let n = c.args.net in
    let i = c.in-Case in
    and_rest c.alternatives_cover.result _ _ _ _ (c.alternatives_cover.ensures ∙ ap (list_all (alternative_covers ds n)) c.deref-in-Case.ensures.value)
    c.if-alternatives_cover.true (case_covers ds n c.args.statement.now i.at i.selector i.alternatives i.others i.is)
    (c.covers-then-alternatives_cover.ensures ∙ ap (λ (xs : List Statement). must_assign (to_net ds n) (statements_of xs)) c.deref-then-alternatives_cover.ensures.value)

pub statement_covers-returns-else-alternatives_cover : goal.statement_covers-returns-else-alternatives_cover
statement_covers-returns-else-alternatives_cover t c =
    let ds = c.args.drives.now in
    let n = c.args.net in
    let i = c.in-Case in
    first_false _ _ _ _ (c.alternatives_cover.ensures ∙ ap (list_all (alternative_covers ds n)) c.deref-in-Case.ensures.value) c.if-alternatives_cover.false
    (case_covers ds n c.args.statement.now i.at i.selector i.alternatives i.others i.is)

-- ---- from one to the next

pub covers-loop-statement-init : goal.covers-loop-statement-init
covers-loop-statement-init t c =
    refl

pub covers-loop-statement-preserved : goal.covers-loop-statement-preserved
covers-loop-statement-preserved t c =
    any_next (statement_covers c.args.drives.now c.args.net) c.args.statements.now c.loop-statement.statement-index c.statement-item.result c.loop-statement-test.true c.statement-item.is c.loop-statement.invariant
    (sym c.statement_covers.ensures ∙ c.if-statement_covers.false)

pub branches_cover-loop-branch-init : goal.branches_cover-loop-branch-init
branches_cover-loop-branch-init t c =
    refl

pub branches_cover-loop-branch-preserved : goal.branches_cover-loop-branch-preserved
branches_cover-loop-branch-preserved t c =
    all_next (branch_covers c.args.drives.now c.args.net) c.args.branches.now c.loop-branch.branch-index c.branch-item.result c.loop-branch-test.true c.branch-item.is c.loop-branch.invariant
    (ap (λ (xs : List Statement). must_assign (to_net c.args.drives.now c.args.net) (statements_of xs)) (sym c.deref.ensures.value) ∙ sym c.covers.ensures ∙ c.if-not-covers.false)

pub branches_cover-returns-then-not-covers : goal.branches_cover-returns-then-not-covers
branches_cover-returns-then-not-covers t c =
    all_lost (branch_covers c.args.drives.now c.args.net) c.args.branches.now c.loop-branch.branch-index c.branch-item.result c.loop-branch-test.true c.branch-item.is c.loop-branch.invariant
    (ap (λ (xs : List Statement). must_assign (to_net c.args.drives.now c.args.net) (statements_of xs)) (sym c.deref.ensures.value) ∙ sym c.covers.ensures ∙ c.if-not-covers.true)

pub branches_cover-returns : goal.branches_cover-returns
branches_cover-returns t c =
    all_end (branch_covers c.args.drives.now c.args.net) c.args.branches.now c.loop-branch.branch-index c.loop-branch-test.false c.loop-branch.invariant

pub alternatives_cover-loop-alternative-init : goal.alternatives_cover-loop-alternative-init
alternatives_cover-loop-alternative-init t c =
    refl

pub alternatives_cover-loop-alternative-preserved : goal.alternatives_cover-loop-alternative-preserved
alternatives_cover-loop-alternative-preserved t c =
    all_next (alternative_covers c.args.drives.now c.args.net) c.args.alternatives.now c.loop-alternative.alternative-index c.alternative-item.result c.loop-alternative-test.true c.alternative-item.is c.loop-alternative.invariant
    (ap (λ (xs : List Statement). must_assign (to_net c.args.drives.now c.args.net) (statements_of xs)) (sym c.deref.ensures.value) ∙ sym c.covers.ensures ∙ c.if-not-covers.false)

pub alternatives_cover-returns-then-not-covers : goal.alternatives_cover-returns-then-not-covers
alternatives_cover-returns-then-not-covers t c =
    all_lost (alternative_covers c.args.drives.now c.args.net) c.args.alternatives.now c.loop-alternative.alternative-index c.alternative-item.result c.loop-alternative-test.true c.alternative-item.is c.loop-alternative.invariant
    (ap (λ (xs : List Statement). must_assign (to_net c.args.drives.now c.args.net) (statements_of xs)) (sym c.deref.ensures.value) ∙ sym c.covers.ensures ∙ c.if-not-covers.true)

pub alternatives_cover-returns : goal.alternatives_cover-returns
alternatives_cover-returns t c =
    all_end (alternative_covers c.args.drives.now c.args.net) c.args.alternatives.now c.loop-alternative.alternative-index c.loop-alternative-test.false c.loop-alternative.invariant
