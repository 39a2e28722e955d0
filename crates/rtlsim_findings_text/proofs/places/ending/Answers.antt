use Rattle.std.proofs.Common.{◌≡◌, ℕ, ◌-◌, List, length, drop, subst, sym, ◌∙◌, arith}
use Rattle.std.proofs.lemmas.List.{length-drop, take_all}
use Rattle.rtlsim_refusals.specs.Places.{position_behind, line_before}
use Rattle.rtlsim_refusals.specs.declared.place.Position.{Position}
use Rattle.rtlsim_findings_text.proofs.Lines.{Ends, line_ends, line_is, column_fits, column_counts}
use Rattle.rtlsim_findings_text.proofs.places.ending.Goals as goal

ends : (before : List ℕ) (position : Position) → position ≡ position_behind before → Ends before (line_before before) position.column
ends before position here = subst (λ (p : Position). Ends before (line_before before) p.column) (sym here) (line_ends before)

pub overflow_sub-width : goal.overflow_sub-width
overflow_sub-width c = column_counts _ _ _ (ends c.args.before.now c.args.position c.requires.here)

pub overflow_sub-start : goal.overflow_sub-start
overflow_sub-start c = column_fits _ _ _ (ends c.args.before.now c.args.position c.requires.here)

pub returns : goal.returns
returns c =
    let before = c.args.before.now in
    let start = length before - (c.args.position.column - 1) in
    take_all (length before - start) (drop start before) (omega (arith, length-drop start before)) ∙ line_is _ _ _ (ends before c.args.position c.requires.here)
