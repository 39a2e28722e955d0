use Rattle.std.proofs.Common.{◌≡◌, true, Option, Some, None, Vec, Global, List, ap, ◌∙◌}
use Rattle.rtl_net.specs.declared.body.Statement.{Statement}
use Rattle.rtl_net.specs.declared.body.Statement.TheVariants as vs
use Rattle.rtl_net.specs.declared.body.Branch.{Branch}
use Rattle.rtl_net.specs.Bodies.{branches_of, statement_view}
use Rattle.rtl_model.specs.bodies.Body.{done, if_of, no_else, step}
use Rattle.rtl_body_facts.proofs.Timings.{clocked, first_with_else, first_without_else}
use Rattle.rtl_body_facts.proofs.kinds.clocking_of_both.Goals as goal

pub returns-in-Some : goal.returns-in-Some
returns-in-Some c =
    let i = c.in-If in
    let v = c.in-Some.field-0 in
    let is : c.args.first.now ≡ vs.If i.at i.branches (Some v) = i.is ∙ ap (λ (o : Option (Vec Statement Global)). vs.If i.at i.branches o) c.in-Some.is in
    first_with_else c.args.inputs.now c.args.first.now (statement_view c.args.second.now) i.at i.branches v is

pub returns-in-None : goal.returns-in-None
returns-in-None c =
    let i = c.in-If in
    let t = statement_view c.args.second.now in
    let is : c.args.first.now ≡ vs.If i.at i.branches None = i.is ∙ ap (λ (o : Option (Vec Statement Global)). vs.If i.at i.branches o) c.in-None.is in
    c.clocking_before.ensures ∙ (ap (λ (bs : List Branch). clocked true c.args.inputs.now (step (if_of (branches_of no_else bs)) (step t done))) c.deref.ensures.value
    ∙ first_without_else c.args.inputs.now c.args.first.now t i.at i.branches is)
