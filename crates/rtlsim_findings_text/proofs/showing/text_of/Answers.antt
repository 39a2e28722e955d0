use Rattle.std.proofs.Common.{◌++◌, map, ap, sym, subst, ◌∙◌}
use Rattle.std.specs.Prelude.{All, flat_map}
use Rattle.rtlsim_findings.specs.Remarked.{remark_view}
use Rattle.rtlsim_findings_text.specs.Marks.{IsMarked, view}
use Rattle.rtlsim_findings_text.specs.RemarkText.{line}
use Rattle.rtlsim_findings_text.proofs.Texts.{told_of}
use Rattle.rtlsim_findings_text.proofs.showing.text_of.Goals as goal

pub push_lines-requires : goal.push_lines-requires
push_lines-requires c = record { marked = subst (All IsMarked) (sym c.as_slice-files.ensures.value) c.in_ok-marked.ensures.marks }

pub returns : goal.returns
returns c =
    let net = c.args.net.now in
    c.in_ok-push_lines.ensures ∙ ap (λ t. t ++ flat_map (line (map view c.as_slice-files.result.now) net) (map remark_view c.deref.result.now)) c.new-text.ensures.items
    ∙ told_of (λ fs. flat_map (line fs net)) remark_view _ _ _ _ _ _ c.as_slice-files.ensures.value c.in_ok-marked.ensures.are c.deref.ensures.value c.in_ok-found.ensures
