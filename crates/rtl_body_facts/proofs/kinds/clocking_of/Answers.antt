use Rattle.std.proofs.Common.{◌≡◌, Option, Some, None, Vec, Global, List, ap, ◌∙◌}
use Rattle.rtl_net.specs.declared.body.Statement.{Statement}
use Rattle.rtl_net.specs.declared.body.Statement.TheVariants as vs
use Rattle.rtl_net.specs.declared.body.Branch.{Branch}
use Rattle.rtl_body_facts.proofs.Timings.{narrow_two, not_one, with_else, without_else, clocked, if_alone}
use Rattle.rtl_body_facts.proofs.kinds.clocking_of.Goals as goal

pub returns-then-body-ne1 : goal.returns-then-body-ne1
returns-then-body-ne1 c = not_one c.args.wide c.args.inputs.now c.args.body.now c.if-body-eq2.false c.if-body-ne1.true

pub returns-then-not-wide : goal.returns-then-not-wide
returns-then-not-wide c = narrow_two c.args.wide c.args.inputs.now c.args.body.now c.if-body-eq2.true c.if-not-wide.true

pub returns-in-Some : goal.returns-in-Some
returns-in-Some c =
    let i = c.in-If in
    let v = c.in-Some.field-0 in
    let is : c.index-body-0-2.result ≡ vs.If i.at i.branches (Some v) = i.is ∙ ap (λ (o : Option (Vec Statement Global)). vs.If i.at i.branches o) c.in-Some.is in
    with_else c.args.wide c.args.inputs.now c.args.body.now c.index-body-0-2.result c.if-body-ne1.false c.index-body-0-2.is i.at i.branches v is

pub returns-in-None : goal.returns-in-None
returns-in-None c =
    let i = c.in-If in
    let is : c.index-body-0-2.result ≡ vs.If i.at i.branches None = i.is ∙ ap (λ (o : Option (Vec Statement Global)). vs.If i.at i.branches o) c.in-None.is in
    c.clocking_of_branches.ensures ∙ (ap (λ (bs : List Branch). clocked c.args.wide c.args.inputs.now (if_alone bs)) c.deref.ensures.value
    ∙ without_else c.args.wide c.args.inputs.now c.args.body.now c.index-body-0-2.result c.if-body-ne1.false c.index-body-0-2.is i.at i.branches is)
