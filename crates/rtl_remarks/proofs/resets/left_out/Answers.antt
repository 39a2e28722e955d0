use Rattle.std.proofs.Common.{ap, sym, ◌∙◌}
use Rattle.std.specs.Prelude.{option_map}
use Rattle.rtl_model.specs.bodies.Kinds.{clocking}
use Rattle.rtl_net.specs.Bodies.{statements_of}
use Rattle.rtl_net.specs.Nets.{body_of}
use Rattle.rtl_remarks.specs.Remarks.{reset_branch}
use Rattle.rtl_remarks.proofs.LeftOut.{if_ok, left_are}
use Rattle.rtl_remarks.proofs.resets.left_out.Goals as goal

pub returns-in_ok-targets-in-Some : goal.returns-in_ok-targets-in-Some
returns-in_ok-targets-in-Some c =
    let p = c.args.process.now in
    if_ok _ _ c.chosen.result
    (λ v h.
    left_are p (reset_branch (clocking c.args.wide c.args.inputs.now (body_of p))) c.in-Some.branch.now v.items (c.deref-in-Some-2).result.now (c.deref-in-Some-3).result.now
    (c.in_ok-targets-in-Some).targets.items (c.in_ok-assigned-in-Some).assigned.items (c.deref-in-Some).result.now c.deref.result.now h (c.deref-in-Some-2).ensures.value
    (c.deref-in-Some-3).ensures.value (c.in_ok-targets-in-Some).ensures (c.in_ok-assigned-in-Some).ensures.are (c.deref-in-Some).ensures.value c.deref.ensures.value
    (sym (ap (option_map (λ s. statements_of s.now)) c.in-Some.is) ∙ c.guarded.ensures))
    c.chosen.ensures
