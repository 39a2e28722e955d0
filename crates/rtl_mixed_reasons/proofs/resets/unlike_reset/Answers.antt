use Rattle.std.proofs.Common.{List, ap, sym, ◌∙◌}
use Rattle.rtl_net.specs.declared.body.Branch.{Branch}
use Rattle.rtl_mixed_reasons.specs.Reasons.{no_reset}
use Rattle.rtl_mixed_reasons.proofs.Branching.{of-if, whole-of}
use Rattle.rtl_mixed_reasons.proofs.resets.unlike_reset.Goals as goal

pub returns-in-If : goal.returns-in-If
returns-in-If c =
    let i = c.in-If in
    c.no_reset.ensures
    ∙ (ap (λ (bs : List Branch). no_reset i.at (whole-of bs i.otherwise)) c.deref.ensures.value
    ∙ sym (of-if no_reset c.args.statement.now i.at i.branches i.otherwise i.is))
