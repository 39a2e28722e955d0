use Rattle.std.proofs.Common.{ap, sym, ◌∙◌, refl, List, Some}
use Rattle.rtl_model.specs.bodies.Kinds.{clocking}
use Rattle.rtl_net.specs.Bodies.{statements_of}
use Rattle.rtl_net.specs.Nets.{body_of}
use Rattle.rtl_net.specs.declared.body.Statement.{Statement}
use Rattle.rtl_process_kinds.specs.ResetBranches.{reset_branch}
use Rattle.rtl_remarks.proofs.ResetBranches.{are_same, differ, no_guarded, other_guarded, one_alone, not_alone, first_guarded, behind_guarded}
use Rattle.rtl_remarks.proofs.branches.guarded.Goals as goal

pub returns-in_default : goal.returns-in_default
returns-in_default c = no_guarded c.args.reset (clocking c.args.wide c.args.inputs.now (body_of c.args.process.now)) (sym c.has_reset.ensures ∙ c.in_default.is)

pub returns-then-has-reset : goal.returns-then-has-reset
returns-then-has-reset c =
    let has = c.in-Some.has in
    other_guarded c.args.reset has (clocking c.args.wide c.args.inputs.now (body_of c.args.process.now)) (sym c.has_reset.ensures ∙ c.in-Some.is) (differ has c.args.reset c.if-has-reset.true)

pub returns-then-len-ne1 : goal.returns-then-len-ne1
returns-then-len-ne1 c =
    let has = c.in-Some.has in
    let p = c.args.process.now in
    behind_guarded c.args.wide c.args.inputs.now (body_of p) c.args.reset _
    (not_alone p.body.items (λ one. c.if-len-ne1.true (c.len.ensures ∙ p.body.ok.0 ∙ one))) refl
    (sym c.has_reset.ensures ∙ c.in-Some.is ∙ ap Some (are_same has c.args.reset c.if-has-reset.false))

pub returns : goal.returns
returns c =
    let has = c.in-Some.has in
    let p = c.args.process.now in
    ap Some (c.reset_branch.ensures ∙ ap (λ (xs : List Statement). reset_branch (statements_of xs)) c.deref.ensures.value)
    ∙ first_guarded c.args.wide c.args.inputs.now (body_of p) c.args.reset _
    (one_alone p.body.items (sym p.body.ok.0 ∙ sym c.len.ensures ∙ c.if-len-ne1.false)) refl
    (sym c.has_reset.ensures ∙ c.in-Some.is ∙ ap Some (are_same has c.args.reset c.if-has-reset.false))
