use Rattle.std.proofs.Common.{◌++◌, codes, map, ap, ◌∙◌}
use Rattle.fault_rules.specs.Rules.{words_of}
use Rattle.fault_rules.specs.declared.report.Report.{Report}
use Rattle.rtlsim_findings.specs.Causes.{at_process}
use Rattle.rtlsim_findings.proofs.Lists.{map_same}
use Rattle.rtlsim_findings_text.specs.Json.{placed, places_text, process_text, remark_text}
use Rattle.rtlsim_findings_text.specs.Marks.{view}
use Rattle.rtlsim_findings_text.specs.Values.{string_text}
use Rattle.rtlsim_findings_text.proofs.Texts.{all_eight, part}
use Rattle.rtlsim_findings_text.proofs.object.remark_text.Goals as goal

pub returns : goal.returns
unfolding remark_text
returns c =
    let net = c.args.site.now.net.now in
    let files = map view c.args.site.now.files.now in
    let called = c.as_bytes.ensures.value ∙ c.words-words.ensures.name ∙ ap (λ (r : Report). (words_of r.rule).name.now) c.remark_report.ensures in
    let name = part _ _ _ _ c.in_ok-push_member.ensures (ap (λ t. codes "{\"name\":" ++ string_text t) called) in
    let message = part _ _ _ _ c.in_ok-push_member-2.ensures (ap (λ t. codes ",\"message\":" ++ string_text t) (c.deref.ensures.value ∙ c.in_ok-remark_message.ensures)) in
    let process = part _ _ _ _ c.in_ok-push_process.ensures (ap (process_text net) c.remark_process-process.ensures) in
    let nets = part _ _ _ _ c.in_ok-push_string.ensures (ap string_text c.deref-2.ensures.value) in
    let at = c.at_process.ensures ∙ ap (at_process net) c.remark_process-process.ensures in
    let found = c.in_ok-push_placed.ensures ∙ ap (λ ts. ts ++ placed files c.at_process.result (codes "null")) (map_same _ _ c.new-places.ensures.items (λ t. t.items))
    ∙ ap (λ p. placed files p (codes "null")) at in
    let places = part _ _ _ _ c.in_ok-push_places.ensures (ap places_text (map_same _ _ c.deref-3.ensures.value (λ t. t.items) ∙ found)) in
    all_eight _ _ _ _ _ _ _ _ _ (codes "{\"name\":") _ (codes ",\"message\":") _ _ _ _ _ _ _ c.new-text.ensures.items name message c.in_ok-extend_from_slice.ensures.items process c.in_ok-extend_from_slice-2.ensures.items nets
    c.in_ok-extend_from_slice-3.ensures.items places
