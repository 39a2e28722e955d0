use Rattle.std.proofs.Common.{subst, ◌∙◌}
use Rattle.byte_streams.specs.Written.{Goes}
use Rattle.rtlsim_findings.specs.Findings.{finding_view}
use Rattle.rtlsim_findings.specs.declared.finding.Finding.{Finding}
use Rattle.rtlsim_listing.proofs.Printing.{next_text}
use Rattle.vhdl_slips.specs.Words.{read_of}
use Rattle.rtlsim_findings_text.specs.Explained.{paragraph}
use Rattle.rtlsim_findings_text.specs.Marks.{files_at}
use Rattle.rtlsim_findings_text.proofs.Texts.{written_each, written_part}
use Rattle.rtlsim_findings_text.proofs.rejection.push_paragraphs.Goals as goal

pub returns-in_err-text : goal.returns-in_err-text
returns-in_err-text g c =
    written_part (paragraph (files_at c.args.site.now) (read_of c.args.source) c.args.site.now.net.now) finding_view c.from_residual.result _ _ _ c.args.found.now c.loop-finding.finding-index
    c.finding-item.result c.from_residual.ensures.1 c.loop-finding-test.true c.loop-finding.invariant

pub loop-finding-preserved : goal.loop-finding-preserved
loop-finding-preserved g c =
    let text = paragraph (files_at c.args.site.now) (read_of c.args.source) c.args.site.now.net.now in
    let each = λ (f : Finding). text (finding_view f) in
    let gone = subst (λ t. Goes (g.S.Sink.state c.loop-finding.sink) (g.S.Sink.state c.push_text.new.sink) t) (c.deref.ensures.value ∙ c.in_ok-text.ensures) c.push_text.ensures in
    next_text _ _ _ each c.args.found.now c.loop-finding.finding-index c.finding-item.result c.loop-finding-test.true c.loop-finding.invariant
    (rw (← c.finding-item.is) gone)

pub returns : goal.returns
returns g c =
    written_each (paragraph (files_at c.args.site.now) (read_of c.args.source) c.args.site.now.net.now) finding_view _ _ c.args.found.now c.loop-finding.finding-index c.loop-finding-test.false
    c.loop-finding.invariant
