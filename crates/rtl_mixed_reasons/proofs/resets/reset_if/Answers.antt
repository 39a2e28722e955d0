use Rattle.std.proofs.Common.{Bool, List, ℕ, Some, ap, sym, ◌∙◌}
use Rattle.std.specs.Prelude.{option_map}
use Rattle.rtl_net.specs.Bodies.{branches_of, otherwise_of}
use Rattle.rtl_net.specs.declared.body.Branch.{Branch}
use Rattle.rtl_body_facts.specs.Reading.{is_in}
use Rattle.rtl_mixed_reasons.specs.Reasons.{naming, sole_reset}
use Rattle.rtl_mixed_reasons.specs.declared.reason.ReasonKind.TheVariants.{ResetBehind}
use Rattle.rtl_mixed_reasons.proofs.Branching.{behind-is}
use Rattle.rtl_mixed_reasons.proofs.resets.reset_if.Goals as goal

pub returns-in-Some : goal.returns-in-Some
returns-in-Some c =
    let i = c.in-If in
    let p = c.args.process.now in
    let edge : ℕ → Bool = λ n. is_in n c.args.edge.now in
    ap Some c.naming.ensures
    ∙ sym (ap (option_map (naming ResetBehind i.at)) c.in-Some.is)
    ∙ (ap (option_map (naming ResetBehind i.at)) (c.in_ok-net-in-If.ensures ∙ ap (λ (bs : List Branch). sole_reset p edge (branches_of (otherwise_of (option_map (λ v. v.items) i.otherwise)) bs)) c.deref.ensures.value)
    ∙ behind-is p edge c.args.statement.now i.at i.branches i.otherwise i.is)

pub returns-in-None : goal.returns-in-None
returns-in-None c =
    let i = c.in-If in
    let p = c.args.process.now in
    let edge : ℕ → Bool = λ n. is_in n c.args.edge.now in
    sym (ap (option_map (naming ResetBehind i.at)) c.in-None.is)
    ∙ (ap (option_map (naming ResetBehind i.at)) (c.in_ok-net-in-If.ensures ∙ ap (λ (bs : List Branch). sole_reset p edge (branches_of (otherwise_of (option_map (λ v. v.items) i.otherwise)) bs)) c.deref.ensures.value)
    ∙ behind-is p edge c.args.statement.now i.at i.branches i.otherwise i.is)
