use Rattle.std.proofs.Common.{◌&&◌, refl, ap, sym, ◌∙◌}
use Rattle.std.specs.Prelude.{is_some, is_none}
use Rattle.rtl_mixed_reasons.specs.Reasons.{unlike_reset}
use Rattle.rtl_mixed_reasons.proofs.Branching.{if-branches}
use Rattle.rtl_mixed_reasons.proofs.Searches.{from-not}
use Rattle.rtl_mixed_reasons.proofs.resets.may_reset.Goals as goal

pub returns-in-If : goal.returns-in-If
returns-in-If c =
    let x = c.args.statement.now in
    let i = c.in-If in
    sym (from-not _ _ _ c.is_none.ensures refl) ∙ (ap is_none c.unlike_reset.ensures ∙ sym (λ j. is_some (if-branches x i.at i.branches i.otherwise i.is j) && is_none (unlike_reset x)))
