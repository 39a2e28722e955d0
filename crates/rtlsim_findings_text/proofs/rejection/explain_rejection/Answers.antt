use Rattle.std.proofs.Common.{map, sym, subst}
use Rattle.std.specs.Prelude.{All}
use Rattle.byte_streams.specs.Written.{Goes}
use Rattle.byte_streams.proofs.Writing.{Goes-append}
use Rattle.vhdl_source_files.specs.Files.{file_view}
use Rattle.rtlsim_findings.specs.Findings.{findings, finding_view}
use Rattle.rtlsim_listing.specs.Printing.{GoesInPart}
use Rattle.rtlsim_listing.proofs.Printing.{none, refused, longer}
use Rattle.vhdl_slips.specs.Words.{read_of}
use Rattle.rtlsim_findings_text.specs.Explained.{paragraphs, ending}
use Rattle.rtlsim_findings_text.specs.Marks.{IsMarked}
use Rattle.rtlsim_findings_text.proofs.Texts.{told_of}
use Rattle.rtlsim_findings_text.proofs.rejection.explain_rejection.Goals as goal

pub push_found-requires : goal.push_found-requires
push_found-requires g c = record { marked = subst (All IsMarked) (sym c.as_slice-files.ensures.value) c.in_ok-marked.ensures.marks }

pub returns-in_err-found : goal.returns-in_err-found
returns-in_err-found g c = refused c.from_residual.result _ _ _ _ c.from_residual.ensures.1 (none _ _)

pub returns-in_err-marked : goal.returns-in_err-marked
returns-in_err-marked g c = refused c.from_residual-in_err-marked.result _ _ _ _ c.from_residual-in_err-marked.ensures.1 (none _ _)

pub returns-in_err-push_found : goal.returns-in_err-push_found
returns-in_err-push_found g c =
    let files = map file_view c.args.files.now in
    let net = c.args.net.now in
    let source = read_of c.args.source in
    let faults = c.args.faults.now in
    let told = told_of (λ fs. paragraphs fs source net) finding_view files _ _ _ _ (findings net faults) c.as_slice-files.ensures.value c.in_ok-marked.ensures.are c.deref.ensures.value c.in_ok-found.ensures in
    refused c.from_residual-in_err-push_found.result _ _ _ _ c.from_residual-in_err-push_found.ensures.1
    (longer _ _ (paragraphs files source net (findings net faults)) (ending faults) (subst (GoesInPart _ _) told c.in_err-push_found.ensures))

pub returns : goal.returns
returns g c =
    let net = c.args.net.now in
    let source = read_of c.args.source in
    let told = told_of (λ fs. paragraphs fs source net) finding_view (map file_view c.args.files.now) _ _ _ _ (findings net c.args.faults.now) c.as_slice-files.ensures.value c.in_ok-marked.ensures.are c.deref.ensures.value c.in_ok-found.ensures in
    Goes-append _ _ _ _ _ (subst (Goes _ _) told c.in_ok-push_found.ensures) (subst (Goes _ _) c.ending.ensures c.push_text.ensures)
