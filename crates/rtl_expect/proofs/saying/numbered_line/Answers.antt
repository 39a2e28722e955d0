use Rattle.std.proofs.Common.{◌-◌, ◌≡◌, List, ℕ, [], ap, map, sym, ◌∙◌, arith}
use Rattle.std.specs.Prelude.{slice_index_or}
use Rattle.std.proofs.lemmas.List.{length-map}
use Rattle.rtl_stim_lines.specs.Lines.{as_lines}
use Rattle.rtl_expect.proofs.Parts.{texts, line_there, no_line}
use Rattle.rtl_expect.proofs.saying.numbered_line.Goals as goal

pub returns-then-place-parts : goal.returns-then-place-parts
returns-then-place-parts c =
    sym (line_there c.saturating_sub-place.result (texts c.args.parts.now) _ _ c.line_at.ensures)
    ∙ ap (λ (place : ℕ). slice_index_or (as_lines (texts c.args.parts.now)) place []) c.saturating_sub-place.ensures

pub returns : goal.returns
returns c =
    sym (no_line c.saturating_sub-place.result (texts c.args.parts.now) (omega (arith, c.if-place-parts.false, length-map c.args.parts.now (λ part. part.now))))
    ∙ ap (λ (place : ℕ). slice_index_or (as_lines (texts c.args.parts.now)) place []) c.saturating_sub-place.ensures
