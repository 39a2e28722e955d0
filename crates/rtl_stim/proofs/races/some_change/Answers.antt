use Rattle.std.proofs.Common.{ℕ, List, map, subst, arith}
use Rattle.std.specs.Prelude.{All, Contains}
use Rattle.std.proofs.lemmas.List.{get_or-map, length-map, take_all}
use Rattle.std.proofs.lemmas.List.Elements.{All-contains, All-map, All-more, Contains-get_or}
use Rattle.rtl_stim_lines.specs.declared.inputs.Element.{Element}
use Rattle.rtl_stim.specs.Quiet.{IsChangedAt}
use Rattle.rtl_stim.proofs.races.some_change.Goals as goal

pub loop-element-preserved : goal.loop-element-preserved
loop-element-preserved c =
    All-more (λ (e : Element). IsChangedAt c.args.stimulus.now c.args.clocks.now c.args.time e.net → ⊥) c.args.elements.now c.loop-element.element-index _ c.loop-element-test.true
    c.loop-element.invariant (c.changes.ensures.unchanged c.if-changes.false)

pub returns-then-changes-clause-changed : goal.returns-then-changes-clause-changed
returns-then-changes-clause-changed c =
    let net = λ (e : Element). e.net in
    let es = c.args.elements.now in
    let k = c.loop-element.element-index in
    λ yes. (
      _,
      subst (Contains (map net es)) (get_or-map net es k _ 0 c.loop-element-test.true) (Contains-get_or (map net es) k 0 (omega (arith, c.loop-element-test.true, length-map es net))),
      c.changes.ensures.changed c.if-changes.true,
    )

pub returns-clause-unchanged : goal.returns-clause-unchanged
returns-clause-unchanged c =
    let P = λ (n : ℕ). IsChangedAt c.args.stimulus.now c.args.clocks.now c.args.time n → ⊥ in
    let all = All-map P (λ (e : Element). e.net) c.args.elements.now
    (subst (λ (es : List Element). All (λ (e : Element). P e.net) es) (take_all c.loop-element.element-index c.args.elements.now (omega (arith, c.loop-element-test.false))) c.loop-element.invariant) in
    λ no changes. All-contains P (map (λ (e : Element). e.net) c.args.elements.now) changes.0 all changes.1 changes.2
