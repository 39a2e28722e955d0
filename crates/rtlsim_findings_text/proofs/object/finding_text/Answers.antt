use Rattle.std.proofs.Common.{ap, ◌∙◌}
use Rattle.fault_rules.specs.Rules.{words_of}
use Rattle.fault_rules.specs.declared.report.Report.{Report}
use Rattle.rtlsim_findings.proofs.Lists.{map_same}
use Rattle.rtlsim_findings_text.specs.Json.{finding_text, places_text, title_text}
use Rattle.rtlsim_findings_text.proofs.Texts.{all_four, part}
use Rattle.rtlsim_findings_text.proofs.object.finding_text.Goals as goal

pub returns : goal.returns
unfolding finding_text
returns c =
    let title = part _ _ _ _ c.in_ok-push_title.ensures (ap (λ (r : Report). title_text (words_of r.rule)) c.report_of.ensures) in
    let places = part _ _ _ _ c.in_ok-push_places.ensures (ap places_text (map_same _ _ c.deref.ensures.value (λ t. t.items) ∙ c.in_ok-places.ensures)) in
    all_four _ _ _ _ _ _ _ _ _ c.new-text.ensures.items title c.in_ok-push_said.ensures c.in_ok-push_named.ensures places
