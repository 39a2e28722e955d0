use Rattle.std.proofs.Common.{List, ℕ, ◌++◌, map, ap, ◌∙◌}
use Rattle.std.proofs.lemmas.Result.{IfOk-equal}
use Rattle.rtlsim_refusals.specs.Places.{halves_shown, line_before}
use Rattle.vhdl_source_files.specs.Files.{after, before, spot_in}
use Rattle.rtlsim_findings_text.specs.Marks.{view}
use Rattle.rtlsim_findings_text.specs.Placed.{shown_text}
use Rattle.rtlsim_findings_text.proofs.Cutting.{shown_ahead}
use Rattle.rtlsim_findings_text.proofs.shown.push_shown.Goals as goal

pub returns-in-Some : goal.returns-in-Some
unfolding shown_text
returns-in-Some c =
    let spot = spot_in (map view c.args.files.now) c.in-Some.at in
    let front = c.halves_at.ensures.before in
    let back = c.halves_at.ensures.after in
    rw c.in-Some.is
    (IfOk-equal c.push_marked.result _ _ _ c.push_marked.ensures
    (ap (λ (shown : List ℕ). c.args.text.now.items ++ shown)
    (ap (λ (front : List ℕ). halves_shown front c.halves_at.result.1.now) front ∙ ap (halves_shown (line_before (before spot))) back
    ∙ shown_ahead (line_before (before spot)) (after spot))))
