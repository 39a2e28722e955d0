use Rattle.std.proofs.Common.{◌≡◌, true, Option, Some, None, Vec, Global, List, ap, ◌∙◌}
use Rattle.rtl_net.specs.declared.body.Statement.{Statement}
use Rattle.rtl_net.specs.declared.body.Statement.TheVariants as vs
use Rattle.rtl_net.specs.declared.body.Branch.{Branch}
use Rattle.rtl_body_facts.proofs.Timings.{clocked, second_with_else, second_without_else, two_ifs}
use Rattle.rtl_body_facts.proofs.kinds.clocking_before.Goals as goal

pub returns-in-Some : goal.returns-in-Some
returns-in-Some c =
    let i = c.in-If in
    let v = c.in-Some.field-0 in
    let is : c.args.second.now ≡ vs.If i.at i.branches (Some v) = i.is ∙ ap (λ (o : Option (Vec Statement Global)). vs.If i.at i.branches o) c.in-Some.is in
    second_with_else c.args.inputs.now c.args.first.now c.args.second.now i.at i.branches v is

pub returns-in-None : goal.returns-in-None
returns-in-None c =
    let i = c.in-If in
    let is : c.args.second.now ≡ vs.If i.at i.branches None = i.is ∙ ap (λ (o : Option (Vec Statement Global)). vs.If i.at i.branches o) c.in-None.is in
    c.clocking_of_two.ensures ∙ (ap (λ (bs : List Branch). clocked true c.args.inputs.now (two_ifs c.args.first.now bs)) c.deref.ensures.value
    ∙ second_without_else c.args.inputs.now c.args.first.now c.args.second.now i.at i.branches is)
