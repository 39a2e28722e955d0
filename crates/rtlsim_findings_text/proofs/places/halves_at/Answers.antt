use Rattle.std.proofs.Common.{ℕ, List, take, sym, ap, ◌∙◌}
use Rattle.rtlsim_refusals.specs.Places.{position_behind, line_before, line_after}
use Rattle.vhdl_source_files.specs.Files.{Spot, before, after}
use Rattle.rtlsim_findings_text.proofs.places.halves_at.Goals as goal

pub ending-requires : goal.ending-requires
ending-requires c = record { here = c.place_at-place.ensures.stands ∙ ap position_behind (sym c.halves.ensures.before) }

pub returns-clause-before : goal.returns-clause-before
returns-clause-before c =
    c.ending.ensures ∙ ap line_before c.halves.ensures.before ∙ ap (λ (s : Spot). line_before (before s)) c.place_at-place.ensures.is

pub returns-clause-after : goal.returns-clause-after
returns-clause-after c =
    c.line_after.ensures ∙ ap line_after (c.halves-2.ensures.before ∙ ap (λ (bytes : List ℕ). take 202 bytes) c.halves.ensures.after)
    ∙ ap (λ (s : Spot). line_after (take 202 (after s))) c.place_at-place.ensures.is
