use Rattle.std.proofs.Common.{◌≡◌, Bool, List, [], ◌∷◌, map, Option, Some, None, Vec, Global, sym, ap, ◌∙◌}
use Rattle.std.specs.List.{list_any}
use Rattle.std.specs.List.Sorted.{IsStrictlyIncreasing}
use Rattle.std.proofs.lemmas.List.{take_all}
use Rattle.std.proofs.lemmas.List.Elements.{All-nil, All-same, All-push}
use Rattle.std.proofs.lemmas.Result.{on_ok_weaker}
use Rattle.rtl_model.specs.bodies.Assigns.{must_assign}
use Rattle.rtl_net.specs.declared.body.Statement.{Statement}
use Rattle.rtl_net.specs.declared.body.Statement.TheVariants as vs
use Rattle.rtl_net.specs.Bodies.{statements_of}
use Rattle.rtl_body_facts.specs.Paths.{to_net}
use Rattle.rtl_body_facts.specs.Reading.{is_in}
use Rattle.rtl_latches.specs.declared.omission.Omission.TheVariants as o
use Rattle.rtl_latches.specs.declared.choosing.Counted.TheVariants as counted
use Rattle.rtl_latches.specs.declared.parts.Part.{Part}
use Rattle.rtl_latches.specs.Parts.{Told, told, told_of, of_branch, of_alternative, both, only_must, only_left, where_so, numbered, together, is_touched}
use Rattle.rtl_latches.proofs.Telling.{both-nothing, any-map, rises-last}
use Rattle.rtl_latches.proofs.Statements.{null-told, set-told, set_at-told, assign-told, assign_at-told, if_alone-told, if-told, case-told, told-more, parts-more, parts-last}
use Rattle.rtl_latches.proofs.gathering.+gathering.Goals as goal

pub gather-loop-statement-init : goal.gather-loop-statement-init
gather-loop-statement-init t c = λ n. c.new-part.ensures n

pub gather-loop-statement-preserved : goal.gather-loop-statement-preserved
gather-loop-statement-preserved t c =
    let l = c.loop-statement in
    let x = c.statement-item.result in
    λ n. c.in_ok-gather_statement.ensures n
    ∙ (ap (λ (u : Told). both u (told_of (to_net c.args.drives.now n) (x ∷ []))) (l.invariant n)
    ∙ sym (told-more (to_net c.args.drives.now n) c.args.statements.now l.statement-index x c.loop-statement-test.true c.statement-item.is))

pub gather-returns : goal.gather-returns
gather-returns t c =
    let l = c.loop-statement in
    record {
      rise = c.sort.ensures.rise;
      told = λ n. c.sort.ensures.told n
          ∙ (l.invariant n ∙ ap (told_of (to_net c.args.drives.now n)) (take_all l.statement-index c.args.statements.now c.loop-statement-test.false));
    }

pub gather_branches-loop-branch-init : goal.gather_branches-loop-branch-init
gather_branches-loop-branch-init t c = record {
  rise = All-same (λ (p : Part). IsStrictlyIncreasing p.assigned.items) _ _ c.new-parts.ensures.items (All-nil (λ (p : Part). IsStrictlyIncreasing p.assigned.items));
  told = λ n. ap (map (told n)) c.new-parts.ensures.items;
}

pub gather_branches-loop-branch-preserved : goal.gather_branches-loop-branch-preserved
gather_branches-loop-branch-preserved t c =
    let l = c.loop-branch in
    let x = c.branch-item.result in
    record {
      rise = All-same (λ (p : Part). IsStrictlyIncreasing p.assigned.items) _ _ c.in_ok-push.ensures.items
          (All-push (λ (p : Part). IsStrictlyIncreasing p.assigned.items) l.parts.items c.in_ok-inner.inner l.invariant.rise c.in_ok-inner.ensures.rise);
      told = λ n.
          parts-more (of_branch c.args.drives.now n) (told n) l.parts.items _ c.in_ok-inner.inner c.args.branches.now l.branch-index x c.in_ok-push.ensures.items (l.invariant.told n)
          (c.in_ok-inner.ensures.told n ∙ ap (told_of (to_net c.args.drives.now n)) c.deref.ensures.value) c.loop-branch-test.true c.branch-item.is;
    }

pub gather_branches-returns : goal.gather_branches-returns
gather_branches-returns t c =
    let l = c.loop-branch in
    record {
      rise = l.invariant.rise;
      told = λ n. l.invariant.told n ∙ ap (map (of_branch c.args.drives.now n)) (take_all l.branch-index c.args.branches.now c.loop-branch-test.false);
    }

pub gather_alternatives-loop-alternative-init : goal.gather_alternatives-loop-alternative-init
gather_alternatives-loop-alternative-init t c = record {
  rise = All-same (λ (p : Part). IsStrictlyIncreasing p.assigned.items) _ _ c.new-parts.ensures.items (All-nil (λ (p : Part). IsStrictlyIncreasing p.assigned.items));
  told = λ n. ap (map (told n)) c.new-parts.ensures.items;
}

pub gather_alternatives-loop-alternative-preserved : goal.gather_alternatives-loop-alternative-preserved
gather_alternatives-loop-alternative-preserved t c =
    let l = c.loop-alternative in
    let x = c.alternative-item.result in
    record {
      rise = All-same (λ (p : Part). IsStrictlyIncreasing p.assigned.items) _ _ c.in_ok-push.ensures.items
          (All-push (λ (p : Part). IsStrictlyIncreasing p.assigned.items) l.parts.items c.in_ok-inner.inner l.invariant.rise c.in_ok-inner.ensures.rise);
      told = λ n.
          parts-more (of_alternative c.args.drives.now n) (told n) l.parts.items _ c.in_ok-inner.inner c.args.alternatives.now l.alternative-index x c.in_ok-push.ensures.items (l.invariant.told n)
          (c.in_ok-inner.ensures.told n ∙ ap (told_of (to_net c.args.drives.now n)) c.deref.ensures.value) c.loop-alternative-test.true c.alternative-item.is;
    }

pub gather_alternatives-returns : goal.gather_alternatives-returns
gather_alternatives-returns t c =
    let l = c.loop-alternative in
    record {
      rise = l.invariant.rise;
      told = λ n. l.invariant.told n ∙ ap (map (of_alternative c.args.drives.now n)) (take_all l.alternative-index c.args.alternatives.now c.loop-alternative-test.false);
    }

pub gather_statement-returns-in-Null : goal.gather_statement-returns-in-Null
gather_statement-returns-in-Null t c =
    λ n. sym (ap (both (told n c.args.part.now)) (null-told c.args.drives.now n c.args.statement.now c.in-Null.is) ∙ both-nothing (told n c.args.part.now))

pub gather_statement-returns-in-Set : goal.gather_statement-returns-in-Set
gather_statement-returns-in-Set t c =
    λ n. sym (ap (both (told n c.args.part.now)) (set-told c.args.drives.now n c.args.statement.now c.in-Set.elements c.in-Set.value c.in-Set.is) ∙ both-nothing (told n c.args.part.now))

pub gather_statement-returns-in-SetAt : goal.gather_statement-returns-in-SetAt
gather_statement-returns-in-SetAt t c =
    let i = c.in-SetAt in
    λ n. sym (ap (both (told n c.args.part.now)) (set_at-told c.args.drives.now n c.args.statement.now i.at i.index i.spacing i.elements i.value i.is) ∙ both-nothing (told n c.args.part.now))

pub gather_statement-returns-in-AssignAt : goal.gather_statement-returns-in-AssignAt
gather_statement-returns-in-AssignAt t c =
    let i = c.in-AssignAt in
    on_ok_weaker c.leave_out.result
    (λ h. λ n. h n ∙ (ap (λ (b : Bool). both (told n c.args.part.now) (only_left (where_so b (Some (o.Row i.at)))))
    (ap (is_in n) c.deref-in-AssignAt.ensures.value ∙ (c.in_ok-nets-in-AssignAt).ensures n)
    ∙ ap (both (told n c.args.part.now)) (sym (assign_at-told c.args.drives.now n c.args.statement.now i.at i.index i.spacing i.places i.value i.is))))
    c.leave_out.ensures

pub gather_statement-returns-in-Assign : goal.gather_statement-returns-in-Assign
gather_statement-returns-in-Assign t c =
    let i = c.in-Assign in
    let st = c.args.statement.now in
    on_ok_weaker c.assign.result
    (λ h. λ n. h n ∙ (ap (λ (b : Bool). both (told n c.args.part.now) (only_must b))
    (ap (is_in n) c.deref.ensures.value ∙ ((c.in_ok-nets-in-Assign).ensures.are n
    ∙ ap (λ (xs : List Statement). must_assign (to_net c.args.drives.now n) (statements_of xs)) c.from_ref.ensures.value))
    ∙ ap (both (told n c.args.part.now)) (sym (assign-told c.args.drives.now n st i.places i.value i.is))))
    c.assign.ensures

pub gather_statement-returns-in-None : goal.gather_statement-returns-in-None
gather_statement-returns-in-None t c =
    let i = c.in-If in
    let st = c.args.statement.now in
    let is : st ≡ vs.If i.at i.branches None = i.is ∙ ap (λ (o : Option (Vec Statement Global)). vs.If i.at i.branches o) c.in-None.is in
    on_ok_weaker c.leave_out-in-None.result
    (λ h. λ n. h n ∙ (ap (λ (b : Bool). both (told n c.args.part.now) (only_left (where_so b (Some (o.NoElse i.at)))))
    (ap (is_in n) c.deref-in-None-2.ensures.value ∙ ((c.in_ok-nets-in-None).ensures.are n
    ∙ (ap (list_any (λ (p : Part). is_touched (told n p))) c.deref-in-None.ensures.value
    ∙ (any-map is_touched (told n) c.in_ok-parts-in-If.parts.items
    ∙ ap (list_any is_touched) ((c.in_ok-parts-in-If).ensures.told n ∙ ap (map (of_branch c.args.drives.now n)) c.deref-in-If.ensures.value)))))
    ∙ ap (both (told n c.args.part.now)) (sym (if_alone-told c.args.drives.now n st i.at i.branches is))))
    c.leave_out-in-None.ensures

pub gather_statement-returns-in-If : goal.gather_statement-returns-in-If
gather_statement-returns-in-If t c =
    let i = c.in-If in
    let st = c.args.statement.now in
    let v = c.in-Some.last in
    let is : st ≡ vs.If i.at i.branches (Some v) = i.is ∙ ap (λ (o : Option (Vec Statement Global)). vs.If i.at i.branches o) c.in-Some.is in
    on_ok_weaker c.choose.result
    (λ h. λ n. h n ∙ (ap (λ (ts : List Told). both (told n c.args.part.now) (together (numbered (counted.Branches i.at)) ts))
    (ap (map (told n)) c.deref-in-Some-2.ensures.value
    ∙ parts-last (told n) c.in_ok-parts-in-If.parts.items _ c.in_ok-last-in-Some.last _ _ (c.in_ok-push-in-Some).ensures.items
    ((c.in_ok-parts-in-If).ensures.told n ∙ ap (map (of_branch c.args.drives.now n)) c.deref-in-If.ensures.value)
    ((c.in_ok-last-in-Some).ensures.told n ∙ ap (told_of (to_net c.args.drives.now n)) c.deref-in-Some.ensures.value))
    ∙ ap (both (told n c.args.part.now)) (sym (if-told c.args.drives.now n st i.at i.branches v is))))
    c.choose.ensures

pub gather_statement-returns : goal.gather_statement-returns
gather_statement-returns t c =
    let i = c.in-Case in
    let st = c.args.statement.now in
    on_ok_weaker c.choose-in-Case.result
    (λ h. λ n. h n ∙ (ap (λ (ts : List Told). both (told n c.args.part.now) (together (numbered (counted.Alternatives i.at)) ts))
    (ap (map (told n)) c.deref-in-Case-3.ensures.value
    ∙ parts-last (told n) c.in_ok-parts-in-Case.parts.items _ c.in_ok-last-in-Case.last _ _ (c.in_ok-push-in-Case).ensures.items
    ((c.in_ok-parts-in-Case).ensures.told n ∙ ap (map (of_alternative c.args.drives.now n)) c.deref-in-Case.ensures.value)
    ((c.in_ok-last-in-Case).ensures.told n ∙ ap (told_of (to_net c.args.drives.now n)) c.deref-in-Case-2.ensures.value))
    ∙ ap (both (told n c.args.part.now)) (sym (case-told c.args.drives.now n st i.at i.selector i.alternatives i.others i.is))))
    c.choose-in-Case.ensures

pub gather_statement-choose-requires : goal.gather_statement-choose-requires
gather_statement-choose-requires t c =
    rises-last c.in_ok-parts-in-If.parts.items _ _ c.in_ok-last-in-Some.last (c.in_ok-push-in-Some).ensures.items c.deref-in-Some-2.ensures.value
    (c.in_ok-parts-in-If).ensures.rise (c.in_ok-last-in-Some).ensures.rise

pub gather_statement-choose-requires-in-Case : goal.gather_statement-choose-requires-in-Case
gather_statement-choose-requires-in-Case t c =
    rises-last c.in_ok-parts-in-Case.parts.items _ _ c.in_ok-last-in-Case.last (c.in_ok-push-in-Case).ensures.items c.deref-in-Case-3.ensures.value
    (c.in_ok-parts-in-Case).ensures.rise (c.in_ok-last-in-Case).ensures.rise
