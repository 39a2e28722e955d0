use Rattle.std.proofs.Common.{true, false, List, Some, refl, ap, sym, ◌∙◌}
use Rattle.std.specs.Prelude.{is_some, option_map}
use Rattle.rtl_model.specs.bodies.Reads.{events}
use Rattle.rtl_net.specs.Bodies.{statements_of, branches_of, otherwise_of}
use Rattle.rtl_net.specs.declared.body.Branch.{Branch}
use Rattle.rtl_net.specs.declared.body.Statement.{Statement}
use Rattle.rtl_body_facts.specs.Reading.{some}
use Rattle.rtl_mixed_reasons.specs.Reasons.{inner_events}
use Rattle.rtl_mixed_reasons.proofs.Branching.{elsewhere-if}
use Rattle.rtl_mixed_reasons.proofs.body.event_in.Goals as goal

pub returns-then-has_inner : goal.returns-then-has_inner
returns-then-has_inner c =
    let i = c.in-If in
    ap Some c.plain.ensures
    ∙ elsewhere-if c.args.statement.now i.at i.branches i.otherwise true _ i.is
    (sym (c.body_has_event.ensures ∙ ap (λ (xs : List Statement). some (events (statements_of xs))) c.from_ref.ensures.value) ∙ c.if-not-body_has_event.false)
    (sym (c.has_inner.ensures ∙ ap (λ (bs : List Branch). some (inner_events (branches_of (otherwise_of (option_map (λ v. v.items) i.otherwise)) bs))) c.deref.ensures.value) ∙ c.if-has_inner.true)
    refl

pub returns-then-is_some : goal.returns-then-is_some
returns-then-is_some c =
    let i = c.in-If in
    ap Some c.plain-then-is_some.ensures
    ∙ elsewhere-if c.args.statement.now i.at i.branches i.otherwise false true i.is
    (sym (c.body_has_event.ensures ∙ ap (λ (xs : List Statement). some (events (statements_of xs))) c.from_ref.ensures.value) ∙ c.if-not-body_has_event.false)
    (sym (c.has_inner.ensures ∙ ap (λ (bs : List Branch). some (inner_events (branches_of (otherwise_of (option_map (λ v. v.items) i.otherwise)) bs))) c.deref.ensures.value) ∙ c.if-has_inner.false)
    (ap is_some (sym c.edge_if.ensures) ∙ (sym c.is_some.ensures ∙ c.if-is_some.true))

pub returns-else-is_some : goal.returns-else-is_some
returns-else-is_some c =
    let i = c.in-If in
    ap Some c.plain-in-If.ensures
    ∙ elsewhere-if c.args.statement.now i.at i.branches i.otherwise false false i.is
    (sym (c.body_has_event.ensures ∙ ap (λ (xs : List Statement). some (events (statements_of xs))) c.from_ref.ensures.value) ∙ c.if-not-body_has_event.false)
    (sym (c.has_inner.ensures ∙ ap (λ (bs : List Branch). some (inner_events (branches_of (otherwise_of (option_map (λ v. v.items) i.otherwise)) bs))) c.deref.ensures.value) ∙ c.if-has_inner.false)
    (ap is_some (sym c.edge_if.ensures) ∙ (sym c.is_some.ensures ∙ c.if-is_some.false))
