use Rattle.std.proofs.Common.{◌≡◌, ℕ, Bool, true, false, ◌&&◌, List, length, get_or, Option, Some, None, refl, ap, sym, ◌∙◌}
use Rattle.std.specs.Prelude.{option_map, is_some, is_none}
use Rattle.rtl_net.specs.Bodies.{statements_of}
use Rattle.rtl_net.specs.declared.body.Statement.{Statement}
use Rattle.rtl_body_facts.specs.Reading.{is_in}
use Rattle.rtl_mixed_reasons.specs.declared.reason.Reason.{Reason}
use Rattle.rtl_mixed_reasons.specs.Reasons.{computes, assigns_alike}
use Rattle.rtl_mixed_reasons.proofs.Branching.{sole-many, sole-else, sole-one}
use Rattle.rtl_mixed_reasons.proofs.resets.sole_reset.Goals as goal
use Rattle.rtl_mixed_reasons.proofs.resets.sole_reset.Goals.{then-branches-ne1-via-then-branches-ne1, then-branches-ne1-via-else-branches-ne1+then-is_some}

pub returns-then-branches-ne1 : goal.returns-then-branches-ne1
returns-then-branches-ne1 c =
    elim c.then-branches-ne1.branch [
      | then-branches-ne1-via-then-branches-ne1 w ↦ sole-many c.args.process.now (λ n. is_in n c.args.edge.now) (option_map (λ v. v.items) c.args.otherwise.now) c.args.branches.now w.if-branches-ne1.true
      | then-branches-ne1-via-else-branches-ne1+then-is_some w ↦ sole-else c.args.process.now (λ n. is_in n c.args.edge.now) c.args.otherwise.now c.args.branches.now (sym w.is_some.ensures ∙ w.if-is_some.true)
    ]

none-is : (o : Option Reason) → is_some o ≡ false → is_none o ≡ true
none-is None e = refl
none-is (Some x) e = absurd cc

pub returns : goal.returns
returns c =
    let p = c.args.process.now in
    let b = c.index-branches-0.result in
    let edge : ℕ → Bool = λ n. is_in n c.args.edge.now in
    let one : length c.args.branches.now ≡ 1 = c.if-branches-ne1.false in
    let none : is_some c.args.otherwise.now ≡ false = sym c.is_some.ensures ∙ c.if-is_some.false in
    let constant : is_none (computes false 0 (statements_of b.statements.items)) ≡ true =
    none-is _ (ap (λ (xs : List Statement). is_some (computes false 0 (statements_of xs))) (sym c.deref.ensures.value) ∙ (ap is_some (sym c.computes.ensures) ∙ (sym c.is_some-2.ensures ∙ c.if-is_some-2.false))) in
    let alike : assigns_alike p edge (statements_of b.statements.items) ≡ true =
    ap (λ (xs : List Statement). assigns_alike p edge (statements_of xs)) (sym c.deref-2.ensures.value) ∙ (sym c.in_ok-assigns_alike.ensures ∙ c.if-not-branch.false) in
    let is : b ≡ get_or c.args.branches.now 0 b = c.index-branches-0.is in
    c.reset_net.ensures ∙ sole-one p edge c.args.otherwise.now c.args.branches.now b true one none is (λ j. constant j && alike j)
