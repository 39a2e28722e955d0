use Rattle.std.proofs.Common.{ap, ◌∙◌}
use Rattle.std.proofs.lemmas.Result.{IfOk-equal}
use Rattle.fault_rules.specs.Rules.{words_of}
use Rattle.fault_rules.specs.declared.report.Report.{Report}
use Rattle.rtlsim_listing.specs.CheckText.{title_text}
use Rattle.rtlsim_findings_text.specs.Explained.{told_text}
use Rattle.rtlsim_findings_text.proofs.Texts.{part, six}
use Rattle.rtlsim_findings_text.proofs.paragraph.push_told.Goals as goal

pub returns : goal.returns
unfolding told_text
returns c =
    let title = part _ _ _ _ c.in_ok-push_title.ensures (ap (λ (r : Report). title_text (words_of r.rule)) c.report_of.ensures) in
    let message = part _ _ _ _ c.in_ok-extend_from_slice-2.ensures.items (c.deref.ensures.value ∙ c.in_ok-message.ensures) in
    IfOk-equal c.push_shown.result _ _ _ c.push_shown.ensures
    (six _ _ _ _ _ _ _ _ _ _ _ _ c.in_ok-push_place.ensures title c.in_ok-extend_from_slice.ensures.items message c.in_ok-extend_from_slice-3.ensures.items)
