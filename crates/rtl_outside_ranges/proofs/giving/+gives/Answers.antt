use Rattle.std.proofs.Common.{◌≡◌, ◌+◌, ◌||◌, ℕ, Bool, List, Option, Some, None, Vec, Global, drop, ap, sym, subst, ◌∙◌}
use Rattle.std.specs.Prelude.{option_map}
use Rattle.std.specs.List.{list_any}
use Rattle.std.specs.List.Sorted.{IsStrictlyIncreasing}
use Rattle.std.proofs.lemmas.List.{take_all, at_drop_all}
use Rattle.std.proofs.lemmas.Result.{on_ok_weaker}
use Rattle.rtl_model.specs.bodies.Body as bodies
use Rattle.rtl_model.specs.bodies.Leaves.{test_leaves}
use Rattle.rtl_net.specs.declared.body.Statement.{Statement}
use Rattle.rtl_net.specs.declared.body.Statement.TheVariants as vs
use Rattle.rtl_net.specs.declared.body.Branch.{Branch}
use Rattle.rtl_net.specs.declared.body.Alternative.{Alternative}
use Rattle.rtl_net.specs.Bodies.{statements_of, branches_of, otherwise_of, test_view}
use Rattle.rtl_body_facts.specs.Reading.{is_in}
use Rattle.rtl_body_facts.proofs.Anys.{or_none, or_assoc}
use Rattle.rtl_body_facts.proofs.EveryPath.{any_more, goes_on}
use Rattle.rtl_outside_ranges.specs.Outside.{also, gives, branches_give}
use Rattle.rtl_outside_ranges.specs.Tables.{IsLooked, statement_gives, alternative_gives, behind}
use Rattle.rtl_outside_ranges.proofs.Parts.{body_gives, branch_gives, more_gives, next_branch, if_gives, case_gives}
use Rattle.rtl_outside_ranges.proofs.giving.+gives.Goals as goal

pub push_body-loop-statement-init : goal.push_body-loop-statement-init
push_body-loop-statement-init t c = λ n. or_none (is_in n c.args.nets.now.items)

pub push_body-loop-statement-preserved : goal.push_body-loop-statement-preserved
push_body-loop-statement-preserved t c =
    let l = c.loop-statement in
    let f = statement_gives c.args.drives.now (λ m. is_in m c.args.round.logic.now) (λ m. is_in m c.args.round.looked.now) in
    λ n. goes_on _ _ _ _ _ _ (c.in_ok-push_statement.ensures n) (l.invariant n)
    (any_more (f n) c.args.statements.now l.statement-index c.statement-item.result c.loop-statement-test.true c.statement-item.is)

pub push_body-returns : goal.push_body-returns
push_body-returns t c =
    let l = c.loop-statement in
    let xs = c.args.statements.now in
    let looked : ℕ → Bool = λ m. is_in m c.args.round.looked.now in
    λ n. l.invariant n ∙ ap (λ (b : Bool). is_in n c.args.nets.now.items || b)
    (ap (list_any (statement_gives c.args.drives.now (λ m. is_in m c.args.round.logic.now) looked n)) (take_all l.statement-index xs c.loop-statement-test.false) ∙ sym (body_gives c.args.drives.now (λ m. is_in m c.args.round.logic.now) looked n xs))

pub push_alternatives-loop-alternative-init : goal.push_alternatives-loop-alternative-init
push_alternatives-loop-alternative-init t c = λ n. or_none (is_in n c.args.nets.now.items)

pub push_alternatives-loop-alternative-preserved : goal.push_alternatives-loop-alternative-preserved
push_alternatives-loop-alternative-preserved t c =
    let l = c.loop-alternative in
    let looked : ℕ → Bool = λ m. is_in m c.args.round.looked.now in
    λ n. goes_on _ _ _ _ _ _ (c.in_ok-push_body.ensures n ∙ ap (λ (xs : List Statement). is_in n l.nets.items || gives c.args.drives.now (λ m. is_in m c.args.round.logic.now) looked n (statements_of xs)) c.deref.ensures.value) (l.invariant n)
    (any_more (alternative_gives c.args.drives.now (λ m. is_in m c.args.round.logic.now) looked n) c.args.alternatives.now l.alternative-index c.alternative-item.result c.loop-alternative-test.true c.alternative-item.is)

pub push_alternatives-returns : goal.push_alternatives-returns
push_alternatives-returns t c =
    let l = c.loop-alternative in
    λ n. l.invariant n
    ∙ ap (λ (xs : List Alternative). is_in n c.args.nets.now.items || list_any (alternative_gives c.args.drives.now (λ m. is_in m c.args.round.logic.now) (λ m. is_in m c.args.round.looked.now) n) xs)
    (take_all l.alternative-index c.args.alternatives.now c.loop-alternative-test.false)

pub push_branches-loop-branch-init : goal.push_branches-loop-branch-init
push_branches-loop-branch-init t c =
    let bs = c.args.branches.now in
    let items = c.in_ok-found.ensures.items in (
      subst IsStrictlyIncreasing (sym items) c.args.round.looked_rises,
      λ last n. ap (λ (xs : List ℕ). is_in n c.args.nets.now.items || branches_give c.args.drives.now (λ m. is_in m c.args.round.logic.now) (λ m. is_in m xs) n (branches_of last bs)) items,
    )

pub push_branches-loop-branch-preserved : goal.push_branches-loop-branch-preserved
push_branches-loop-branch-preserved t c =
    let l = c.loop-branch in
    let ds = c.args.drives.now in
    let logic : ℕ → Bool = λ m. is_in m c.args.round.logic.now in
    let b = c.branch-item.result in
    let below = c.in-Some.below.items in
    let looked = subst (IsLooked _ _) c.in-Some.is c.in_ok-below.ensures in (
      looked.1,
      λ last n.
          let old = is_in n l.nets.items in
          branch_gives ds logic l.found.items n b below (branches_of last (drop (l.branch-index + 1) c.args.branches.now)) old _ looked.0
          (λ m. looked.2 m ∙ ap (λ (xs : List ℕ). also (λ k. is_in k xs) (test_leaves (test_view b.test)) m) c.deref.ensures.value)
          (c.in_ok-push_body.ensures n
          ∙ ap (λ (xs : List ℕ). old || gives ds logic (λ m. is_in m xs) n (statements_of c.deref-in-loop-branch.result.now)) c.as_slice-looked.ensures.value
          ∙ ap (λ (xs : List Statement). old || gives ds logic (λ m. is_in m below) n (statements_of xs)) c.deref-in-loop-branch.ensures.value)
          ∙ ap (λ (a : Bool). old || a) (sym (next_branch ds logic (λ m. is_in m l.found.items) n last c.args.branches.now l.branch-index b c.loop-branch-test.true c.branch-item.is)) ∙ l.invariant.1 last n,
    )

pub push_branches-returns-in_default-clause-are : goal.push_branches-returns-in_default-clause-are
push_branches-returns-in_default-clause-are t c =
    let l = c.loop-branch in
    let ds = c.args.drives.now in
    let logic : ℕ → Bool = λ m. is_in m c.args.round.logic.now in
    let b = c.branch-item.result in
    let more = subst (IsLooked _ _) c.in_default.is c.in_ok-below.ensures in
    λ last n.
    let old = is_in n l.nets.items in
    more_gives ds logic l.found.items n b (branches_of last (drop (l.branch-index + 1) c.args.branches.now)) old more
    ∙ ap (λ (a : Bool). old || a) (sym (next_branch ds logic (λ m. is_in m l.found.items) n last c.args.branches.now l.branch-index b c.loop-branch-test.true c.branch-item.is)) ∙ l.invariant.1 last n

pub push_branches-returns-clause-are : goal.push_branches-returns-clause-are
push_branches-returns-clause-are t c =
    let l = c.loop-branch in
    let f : bodies.Branches → ℕ → List Branch → Bool = λ last n bs. is_in n l.nets.items || branches_give c.args.drives.now (λ m. is_in m c.args.round.logic.now) (λ m. is_in m l.found.items) n (branches_of last bs) in
    λ last n. sym (at_drop_all (f last n) c.args.branches.now l.branch-index c.loop-branch-test.false) ∙ l.invariant.1 last n

pub push_statement-returns-in_default-2 : goal.push_statement-returns-in_default-2
push_statement-returns-in_default-2 t c =
    let i = c.in-If in
    let ds = c.args.drives.now in
    let logic : ℕ → Bool = λ m. is_in m c.args.round.logic.now in
    let last = otherwise_of (option_map (λ v. v.items) i.otherwise) in
    λ n.
    let new = is_in n c.push_branches.new.nets.items in
    or_none new ∙ ap (λ (found : Option (Vec ℕ Global)). new || behind ds logic found n last) (sym c.in_default-2.is)
    ∙ if_gives ds logic (λ m. is_in m c.args.round.looked.now) n _ new _ c.deref.result.now c.args.statement.now i.at i.branches i.otherwise c.deref.ensures.value i.is (λ last. c.in_ok-found-in-If.ensures.are last n)

pub push_statement-returns-in-If : goal.push_statement-returns-in-If
push_statement-returns-in-If t c =
    let i = c.in-If in
    let ds = c.args.drives.now in
    let logic : ℕ → Bool = λ m. is_in m c.args.round.logic.now in
    let is : c.args.statement.now ≡ vs.If i.at i.branches None = i.is ∙ ap (λ (o : Option (Vec Statement Global)). vs.If i.at i.branches o) c.in-None.is in
    λ n.
    let new = is_in n c.push_branches.new.nets.items in
    or_none new ∙ ap (λ (found : Option (Vec ℕ Global)). new || behind ds logic found n bodies.no_else) (sym c.in-Some.is)
    ∙ if_gives ds logic (λ m. is_in m c.args.round.looked.now) n _ new _ c.deref.result.now c.args.statement.now i.at i.branches None c.deref.ensures.value is (λ last. c.in_ok-found-in-If.ensures.are last n)

pub push_statement-returns-in-Some-otherwise : goal.push_statement-returns-in-Some-otherwise
push_statement-returns-in-Some-otherwise t c =
    let i = c.in-If in
    let ds = c.args.drives.now in
    let logic : ℕ → Bool = λ m. is_in m c.args.round.logic.now in
    let last = c.in-Some-otherwise.last in
    let is : c.args.statement.now ≡ vs.If i.at i.branches (Some last) = i.is ∙ ap (λ (o : Option (Vec Statement Global)). vs.If i.at i.branches o) c.in-Some-otherwise.is in
    on_ok_weaker c.push_body.result
    (λ h n.
    let new = is_in n c.push_branches.new.nets.items in
    h n ∙ ap (λ (xs : List ℕ). new || gives ds logic (λ m. is_in m xs) n (statements_of c.deref-in-Some-otherwise.result.now)) c.as_slice-looked.ensures.value
    ∙ ap (λ (xs : List Statement). new || gives ds logic (λ m. is_in m c.in-Some.found.items) n (statements_of xs)) c.deref-in-Some-otherwise.ensures.value
    ∙ ap (λ (found : Option (Vec ℕ Global)). new || behind ds logic found n (bodies.otherwise (statements_of last.items))) (sym c.in-Some.is)
    ∙ if_gives ds logic (λ m. is_in m c.args.round.looked.now) n _ new _ c.deref.result.now c.args.statement.now i.at i.branches (Some last) c.deref.ensures.value is (λ last. c.in_ok-found-in-If.ensures.are last n))
    c.push_body.ensures

pub push_statement-returns-in-Case : goal.push_statement-returns-in-Case
push_statement-returns-in-Case t c =
    let i = c.in-Case in
    let ds = c.args.drives.now in
    let logic : ℕ → Bool = λ m. is_in m c.args.round.logic.now in
    let inner = c.in-Some-2.found.items in
    let looked = subst (IsLooked _ _) c.in-Some-2.is c.in_ok-found-in-Case.ensures in
    on_ok_weaker c.push_body-in-Case.result
    (λ h n.
    let old = is_in n c.args.nets.now.items in
    let mid = is_in n c.push_alternatives.new.nets.items in
    h n ∙ ap (λ (xs : List ℕ). mid || gives ds logic (λ m. is_in m xs) n (statements_of c.deref-in-Case-2.result.now)) c.as_slice-looked-in-Case.ensures.value
    ∙ ap (λ (xs : List Statement). mid || gives ds logic (λ m. is_in m inner) n (statements_of xs)) c.deref-in-Case-2.ensures.value
    ∙ ap (λ (b : Bool). b || gives ds logic (λ m. is_in m inner) n (statements_of i.others.items))
    (c.in_ok-push_alternatives-in-Case.ensures n
    ∙ ap (λ (xs : List ℕ). old || list_any (alternative_gives ds logic (λ m. is_in m xs) n) c.deref-in-Case.result.now) c.as_slice-looked-in-Case.ensures.value
    ∙ ap (λ (xs : List Alternative). old || list_any (alternative_gives ds logic (λ m. is_in m inner) n) xs) c.deref-in-Case.ensures.value)
    ∙ or_assoc old (list_any (alternative_gives ds logic (λ m. is_in m inner) n) i.alternatives.items) (gives ds logic (λ m. is_in m inner) n (statements_of i.others.items))
    ∙ ap (λ (b : Bool). old || b) (sym (case_gives ds logic c.args.round.looked.now n c.args.statement.now i.at i.selector i.alternatives i.others inner looked.0 looked.2 i.is)))
    c.push_body-in-Case.ensures
