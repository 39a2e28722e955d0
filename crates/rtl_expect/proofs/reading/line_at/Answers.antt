use Rattle.std.proofs.Common.{◌+◌, List, ℕ, ◌∷◌, drop, sym, ap, ◌∙◌}
use Rattle.rtl_stim_lines.specs.Lines.{as_lines}
use Rattle.rtl_expect.proofs.Parts.{texts, more_lines}
use Rattle.rtl_expect.proofs.reading.line_at.Goals as goal

pub returns-then-place-parts : goal.returns-then-place-parts
returns-then-place-parts c =
    more_lines c.args.parts.now c.args.place _ c.if-place-parts.true
    ∙ ap (λ (line : List ℕ). line ∷ as_lines (drop (c.args.place + 1) (texts c.args.parts.now))) (sym c.without_return.ensures)
