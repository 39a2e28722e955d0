use Rattle.std.specs.Prelude.{flat_map}
use Rattle.rtlsim_findings.specs.Findings.{finding_view}
use Rattle.rtlsim_listing.proofs.Printing.{refused}
use Rattle.vhdl_slips.specs.Words.{Read, read_of}
use Rattle.rtlsim_findings_text.specs.Json.{finding_text}
use Rattle.rtlsim_findings_text.specs.Marks.{files_at}
use Rattle.rtlsim_findings_text.specs.Values.{items_text, next_text}
use Rattle.rtlsim_findings_text.proofs.Firsts.{first_and_others, first_part}
use Rattle.rtlsim_findings_text.proofs.verdict.push_found.Goals as goal

pub returns-in_err-push_findings : goal.returns-in_err-push_findings
returns-in_err-push_findings g c =
    let objects = items_text (finding_text (files_at c.args.site.now) (read_of c.args.source) c.args.site.now.net.now) in
    refused c.from_residual.result _ _ _ _ c.from_residual.ensures.1
    (first_part finding_view 20 objects c.args.found.now _ c.first_placed.ensures _ _ _ c.in_err-push_findings.ensures)

pub returns : goal.returns
returns g c =
    let text = λ (source : Read). finding_text (files_at c.args.site.now) source c.args.site.now.net.now in
    first_and_others finding_view 20 (items_text (text (read_of c.args.source))) c.args.found.now _ c.first_placed.ensures c.push_others.result _ _ _
    (λ (source : Read). flat_map (next_text (text source))) _ _ _ c.without_tokens.ensures c.not_placed.ensures c.in_ok-push_findings.ensures c.push_others.ensures
