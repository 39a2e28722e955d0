use Rattle.std.specs.Prelude.{flat_map}
use Rattle.rtlsim_findings.specs.Findings.{finding_view}
use Rattle.rtlsim_listing.proofs.Printing.{refused}
use Rattle.vhdl_slips.specs.Words.{Read, read_of}
use Rattle.rtlsim_findings_text.specs.Explained.{paragraph}
use Rattle.rtlsim_findings_text.specs.Marks.{files_at}
use Rattle.rtlsim_findings_text.proofs.Firsts.{first_and_others, first_part}
use Rattle.rtlsim_findings_text.proofs.rejection.push_found.Goals as goal

pub returns-in_err-push_paragraphs : goal.returns-in_err-push_paragraphs
returns-in_err-push_paragraphs g c =
    let texts = flat_map (paragraph (files_at c.args.site.now) (read_of c.args.source) c.args.site.now.net.now) in
    refused c.from_residual.result _ _ _ _ c.from_residual.ensures.1
    (first_part finding_view 20 texts c.args.found.now _ c.first_placed.ensures _ _ _ c.in_err-push_paragraphs.ensures)

pub returns : goal.returns
returns g c =
    let texts = λ (source : Read). flat_map (paragraph (files_at c.args.site.now) source c.args.site.now.net.now) in
    first_and_others finding_view 20 (texts (read_of c.args.source)) c.args.found.now _ c.first_placed.ensures c.push_paragraphs-2.result _ _ _ texts _ _ _
    c.without_tokens.ensures c.not_placed.ensures c.in_ok-push_paragraphs.ensures c.push_paragraphs-2.ensures
