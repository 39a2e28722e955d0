use Rattle.std.proofs.Common.{◌++◌, codes, map, ap, sym, subst, ◌∙◌}
use Rattle.std.specs.Prelude.{All}
use Rattle.byte_streams.specs.Written.{Goes}
use Rattle.byte_streams.proofs.Writing.{Goes-append}
use Rattle.vhdl_source_files.specs.Files.{file_view}
use Rattle.rtlsim_findings.specs.Findings.{finding_view}
use Rattle.rtlsim_listing.specs.Printing.{GoesInPart}
use Rattle.rtlsim_listing.proofs.Printing.{none, refused, behind, longer}
use Rattle.vhdl_slips.specs.Words.{read_of}
use Rattle.rtlsim_findings_text.specs.Json.{json_text, verdict_text, findings_text, found, end_text}
use Rattle.rtlsim_findings_text.specs.Marks.{IsMarked, view}
use Rattle.rtlsim_findings_text.proofs.Texts.{told_of}
use Rattle.rtlsim_findings_text.proofs.verdict.show_check_json.Goals as goal

pub end_text-requires : goal.end_text-requires
end_text-requires g c = record { marked = subst (All IsMarked) (sym c.as_slice-files.ensures.value) c.in_ok-marked.ensures.marks }

pub push_found-requires : goal.push_found-requires
push_found-requires g c = record { marked = subst (All IsMarked) (sym c.as_slice-files.ensures.value) c.in_ok-marked.ensures.marks }

pub returns-in_err-found : goal.returns-in_err-found
returns-in_err-found g c = refused c.from_residual.result _ _ _ _ c.from_residual.ensures.1 (none _ _)

pub returns-in_err-marked : goal.returns-in_err-marked
returns-in_err-marked g c = refused c.from_residual-in_err-marked.result _ _ _ _ c.from_residual-in_err-marked.ensures.1 (none _ _)

pub returns-in_err-begin : goal.returns-in_err-begin
returns-in_err-begin g c = refused c.from_residual-in_err-begin.result _ _ _ _ c.from_residual-in_err-begin.ensures.1 (none _ _)

pub returns-in_err-end : goal.returns-in_err-end
returns-in_err-end g c = refused c.from_residual-in_err-end.result _ _ _ _ c.from_residual-in_err-end.ensures.1 (none _ _)

pub returns-in_err-push_found : goal.returns-in_err-push_found
returns-in_err-push_found g c =
    let state = g.S.Sink.state in
    let files = map file_view c.args.files.now in
    let net = c.args.net.now in
    let source = read_of c.args.source in
    let verdict = c.args.judgement.now in
    let begin = subst (Goes (state c.args.out.now) (state c.push_text.new.sink)) (c.deref.ensures.value ∙ c.in_ok-begin.ensures) c.push_text.ensures in
    let told = told_of (λ fs. findings_text fs source net) finding_view files _ _ _ _ (found net verdict) c.as_slice-files.ensures.value c.in_ok-marked.ensures.are c.deref-2.ensures.value c.in_ok-found.ensures in
    let objects = findings_text files source net (found net verdict) in
    let part = behind _ _ _ (verdict_text verdict ++ codes ",\"faults\":[") objects (Goes-append _ _ _ _ _ begin c.push_text-2.ensures)
    (subst (GoesInPart _ _) told c.in_err-push_found.ensures) in
    refused c.from_residual-in_err-push_found.result _ _ _ (json_text files source net verdict) c.from_residual-in_err-push_found.ensures.1
    (longer _ _ (verdict_text verdict ++ codes ",\"faults\":[" ++ objects ++ codes "]") (end_text files net)
    (longer _ _ (verdict_text verdict ++ codes ",\"faults\":[" ++ objects) (codes "]") part))

pub returns : goal.returns
returns g c =
    let state = g.S.Sink.state in
    let files = map file_view c.args.files.now in
    let net = c.args.net.now in
    let source = read_of c.args.source in
    let verdict = c.args.judgement.now in
    let begin = subst (Goes (state c.args.out.now) (state c.push_text.new.sink)) (c.deref.ensures.value ∙ c.in_ok-begin.ensures) c.push_text.ensures in
    let told = told_of (λ fs. findings_text fs source net) finding_view files _ _ _ _ (found net verdict) c.as_slice-files.ensures.value c.in_ok-marked.ensures.are c.deref-2.ensures.value c.in_ok-found.ensures in
    let objects = subst (Goes (state c.push_text-2.new.sink) (state c.push_found.new.out)) told c.in_ok-push_found.ensures in
    let ended = c.deref-3.ensures.value ∙ c.in_ok-end.ensures ∙ ap (λ fs. end_text fs net) (ap (map view) c.as_slice-files.ensures.value ∙ c.in_ok-marked.ensures.are) in
    let end = subst (Goes (state c.push_text-3.new.sink) (state c.push_text-4.new.sink)) ended c.push_text-4.ensures in
    Goes-append _ _ _ _ _ (Goes-append _ _ _ _ _ (Goes-append _ _ _ _ _ (Goes-append _ _ _ _ _ begin c.push_text-2.ensures) objects) c.push_text-3.ensures) end
