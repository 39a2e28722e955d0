use Rattle.std.proofs.Common.{List, map, sym, subst, ◌∙◌}
use Rattle.std.specs.Prelude.{flat_map}
use Rattle.byte_streams.specs.Written.{Goes}
use Rattle.byte_streams.proofs.Writing.{Goes-nil}
use Rattle.rtlsim_findings.specs.Findings.{finding_view}
use Rattle.rtlsim_findings.specs.declared.finding.Finding.{Finding}
use Rattle.rtlsim_findings.proofs.Lists.{rest, first_is, none_is}
use Rattle.rtlsim_listing.specs.Printing.{Prints}
use Rattle.rtlsim_listing.proofs.Printing.{none, refused, then}
use Rattle.vhdl_slips.specs.Words.{read_of}
use Rattle.rtlsim_findings_text.specs.Json.{finding_text}
use Rattle.rtlsim_findings_text.specs.Marks.{files_at}
use Rattle.rtlsim_findings_text.specs.Values.{items_text, next_text}
use Rattle.rtlsim_findings_text.proofs.verdict.push_findings.Goals as goal

pub returns-in_default : goal.returns-in_default
returns-in_default g c =
    let text = finding_text (files_at c.args.site.now) (read_of c.args.source) c.args.site.now.net.now in
    let s = g.W.Sink.state c.args.out.now in
    subst (λ (fs : List Finding). Goes s s (items_text text (map finding_view fs))) (sym (none_is c.args.found.now c.in_default.len_below)) (Goes-nil s)

pub returns-in_err-text : goal.returns-in_err-text
returns-in_err-text g c =
    let text = items_text (finding_text (files_at c.args.site.now) (read_of c.args.source) c.args.site.now.net.now) (map finding_view c.args.found.now) in
    refused c.from_residual.result _ _ _ text c.from_residual.ensures.1 (none _ text)

pub returns : goal.returns
returns g c =
    let state = g.W.Sink.state in
    let text = finding_text (files_at c.args.site.now) (read_of c.args.source) c.args.site.now.net.now in
    let found = c.args.found.now in
    let first = c.first-item.result in
    let told = c.deref.ensures.value ∙ c.in_ok-text.ensures in
    let gone = subst (Goes (state c.args.out.now) (state c.push_text.new.sink)) told c.push_text.ensures in
    subst (λ (fs : List Finding). Prints c.push_others.result (state c.args.out.now) (state c.push_others.new.out) (items_text text (map finding_view fs)))
    (sym (first_is found first c.in-len1-up.len_at_least c.first-item.is))
    (then c.push_others.result _ _ _ (text (finding_view first)) (flat_map (next_text text) (map finding_view (rest found))) gone c.push_others.ensures)
