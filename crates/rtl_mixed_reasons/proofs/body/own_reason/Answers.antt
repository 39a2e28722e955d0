use Rattle.std.proofs.Common.{ℕ, List, ap, sym, ◌∙◌}
use Rattle.std.specs.Prelude.{option_map}
use Rattle.rtl_model.specs.bodies.Body.{Branches}
use Rattle.rtl_net.specs.Bodies.{branches_of, otherwise_of}
use Rattle.rtl_net.specs.declared.body.Branch.{Branch}
use Rattle.rtl_mixed_reasons.specs.Reasons.{first_that_fits, own_reasons}
use Rattle.rtl_mixed_reasons.proofs.Branching.{of-if}
use Rattle.rtl_mixed_reasons.proofs.body.own_reason.Goals as goal

pub returns-in-If : goal.returns-in-If
returns-in-If c =
    let i = c.in-If in
    let net = c.args.net.now in
    c.branches_reason.ensures
    ∙ (ap (λ (bs : List Branch). first_that_fits (own_reasons net c.args.found (branches_of (otherwise_of (option_map (λ v. v.items) i.otherwise)) bs))) c.deref.ensures.value
    ∙ sym (of-if (λ (at : ℕ) (bs : Branches). first_that_fits (own_reasons net c.args.found bs)) c.args.statement.now i.at i.branches i.otherwise i.is))
