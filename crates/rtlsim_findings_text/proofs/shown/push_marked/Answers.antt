use Rattle.std.proofs.Common.{◌∙◌}
use Rattle.std.proofs.lemmas.List.Concat.{flat_map-append}
use Rattle.std.specs.Prelude.{flat_map}
use Rattle.rtlsim_refusals.specs.Places.{blank}
use Rattle.rtlsim_findings_text.proofs.Texts.{eight}
use Rattle.rtlsim_findings_text.proofs.shown.push_marked.Goals as goal

pub returns : goal.returns
returns c =
    let line = c.cut_line-line.result in
    c.in_ok-extend_from_slice-6.ensures.items
    ∙ eight _ _ _ _ _ _ _ _ _ _ _ _ _ _ _ _ (flat_map blank) c.in_ok-extend_from_slice.ensures.items c.in_ok-extend_from_slice-2.ensures.items c.in_ok-extend_from_slice-3.ensures.items
    c.in_ok-extend_from_slice-4.ensures.items c.in_ok-extend_from_slice-5.ensures.items c.in_ok-push_blanks.ensures c.in_ok-push_blanks-2.ensures
    (flat_map-append blank line.cut.now line.before.now) c.cut_line-line.ensures.before c.cut_line-line.ensures.after
