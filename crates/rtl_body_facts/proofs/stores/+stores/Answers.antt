use Rattle.std.proofs.Common.{◌≡◌, refl, ◌||◌, List, Option, Some, None, Vec, Global, ap, sym, ◌∙◌}
use Rattle.std.specs.List.{list_any}
use Rattle.rtl_net.specs.declared.body.Statement.{Statement}
use Rattle.rtl_net.specs.declared.body.Statement.TheVariants as vs
use Rattle.rtl_net.specs.Bodies.{statements_of}
use Rattle.rtl_model.specs.bodies.Stored.{stores_element}
use Rattle.rtl_body_facts.specs.Looks.{branch_stores, alternative_stores}
use Rattle.rtl_body_facts.proofs.Anys.{any_found, any_next, any_end, first_true, then_rest}
use Rattle.rtl_body_facts.proofs.Parts.{if_stores, if_alone_stores, case_stores}
use Rattle.rtl_body_facts.proofs.stores.+stores.Goals as goal

pub statement_stores-returns-then-some_branch_stores : goal.statement_stores-returns-then-some_branch_stores
statement_stores-returns-then-some_branch_stores t c =
    let e = c.args.element in
    let i = c.in-If in
    let is : c.args.statement.now ≡ vs.If i.at i.branches (Some c.in-Some.last) = i.is ∙ ap (λ (o : Option (Vec Statement Global)). vs.If i.at i.branches o) c.in-Some.is in
    first_true _ _ _ _ (c.some_branch_stores.ensures ∙ ap (list_any (branch_stores e)) c.deref.ensures.value) c.if-some_branch_stores.true
    (if_stores e c.args.statement.now i.at i.branches c.in-Some.last is)

pub statement_stores-returns-else-some_branch_stores : goal.statement_stores-returns-else-some_branch_stores
statement_stores-returns-else-some_branch_stores t c =
    let e = c.args.element in
    let i = c.in-If in
    let is : c.args.statement.now ≡ vs.If i.at i.branches (Some c.in-Some.last) = i.is ∙ ap (λ (o : Option (Vec Statement Global)). vs.If i.at i.branches o) c.in-Some.is in
    then_rest c.some_branch_stores.result _ _ _ _ (c.some_branch_stores.ensures ∙ ap (list_any (branch_stores e)) c.deref.ensures.value) c.if-some_branch_stores.false
    (if_stores e c.args.statement.now i.at i.branches c.in-Some.last is)
    (c.body_stores.ensures ∙ ap (λ (xs : List Statement). stores_element e (statements_of xs)) c.deref-else-some_branch_stores.ensures.value)

pub statement_stores-returns-in-None : goal.statement_stores-returns-in-None
statement_stores-returns-in-None t c =
    let e = c.args.element in
    let i = c.in-If in
    let is : c.args.statement.now ≡ vs.If i.at i.branches None = i.is ∙ ap (λ (o : Option (Vec Statement Global)). vs.If i.at i.branches o) c.in-None.is in
    c.some_branch_stores-in-None.ensures ∙ (ap (list_any (branch_stores e)) c.deref-in-None.ensures.value
    ∙ sym (if_alone_stores e c.args.statement.now i.at i.branches is))

pub statement_stores-returns-then-some_alternative_stores : goal.statement_stores-returns-then-some_alternative_stores
statement_stores-returns-then-some_alternative_stores t c =
    let e = c.args.element in
    let i = c.in-Case in
    let b = stores_element e (statements_of i.others.items) in
    let a = list_any (alternative_stores e) i.alternatives.items in
    then_rest c.value_looks_at-in-Case.result _ _ _ _ c.value_looks_at-in-Case.ensures c.if-value_looks_at.false (case_stores e c.args.statement.now i.at i.selector i.alternatives i.others i.is)
    (first_true c.some_alternative_stores.result (a || b) a b (c.some_alternative_stores.ensures ∙ ap (list_any (alternative_stores e)) c.deref-in-Case.ensures.value)
    c.if-some_alternative_stores.true refl)

pub statement_stores-returns-else-some_alternative_stores : goal.statement_stores-returns-else-some_alternative_stores
statement_stores-returns-else-some_alternative_stores t c =
    let e = c.args.element in
    let i = c.in-Case in
    let b = stores_element e (statements_of i.others.items) in
    let a = list_any (alternative_stores e) i.alternatives.items in
    then_rest c.value_looks_at-in-Case.result _ _ _ _ c.value_looks_at-in-Case.ensures c.if-value_looks_at.false (case_stores e c.args.statement.now i.at i.selector i.alternatives i.others i.is)
    (then_rest c.some_alternative_stores.result c.body_stores-else-some_alternative_stores.result (a || b) a b
    (c.some_alternative_stores.ensures ∙ ap (list_any (alternative_stores e)) c.deref-in-Case.ensures.value) c.if-some_alternative_stores.false refl
    (c.body_stores-else-some_alternative_stores.ensures ∙ ap (λ (xs : List Statement). stores_element e (statements_of xs)) c.deref-else-some_alternative_stores.ensures.value))

pub body_stores-loop-statement-init : goal.body_stores-loop-statement-init
body_stores-loop-statement-init t c = refl

pub some_branch_stores-loop-branch-init : goal.some_branch_stores-loop-branch-init
some_branch_stores-loop-branch-init t c = refl

pub some_branch_stores-returns : goal.some_branch_stores-returns
some_branch_stores-returns t c = any_end (branch_stores c.args.element) c.args.branches.now c.loop-branch.branch-index c.loop-branch-test.false c.loop-branch.invariant

pub some_alternative_stores-loop-alternative-init : goal.some_alternative_stores-loop-alternative-init
some_alternative_stores-loop-alternative-init t c = refl

pub some_alternative_stores-returns-then-body_stores : goal.some_alternative_stores-returns-then-body_stores
some_alternative_stores-returns-then-body_stores t c =
    any_found (alternative_stores c.args.element) c.args.alternatives.now c.loop-alternative.alternative-index c.alternative-item.result c.loop-alternative-test.true c.alternative-item.is c.loop-alternative.invariant
    (sym (c.body_stores.ensures ∙ ap (λ (xs : List Statement). stores_element c.args.element (statements_of xs)) c.deref.ensures.value) ∙ c.if-body_stores.true)

pub some_alternative_stores-loop-alternative-preserved : goal.some_alternative_stores-loop-alternative-preserved
some_alternative_stores-loop-alternative-preserved t c =
    any_next (alternative_stores c.args.element) c.args.alternatives.now c.loop-alternative.alternative-index c.alternative-item.result c.loop-alternative-test.true c.alternative-item.is c.loop-alternative.invariant
    (sym (c.body_stores.ensures ∙ ap (λ (xs : List Statement). stores_element c.args.element (statements_of xs)) c.deref.ensures.value) ∙ c.if-body_stores.false)

pub some_alternative_stores-returns : goal.some_alternative_stores-returns
some_alternative_stores-returns t c = any_end (alternative_stores c.args.element) c.args.alternatives.now c.loop-alternative.alternative-index c.loop-alternative-test.false c.loop-alternative.invariant
