use Rattle.std.proofs.Common.{sym, ap, ◌∙◌}
use Rattle.std.specs.Prelude.{option_map}
use Rattle.rtl_stim_lines.proofs.Lasts.{last_set}
use Rattle.rtl_stim_lines.proofs.courses.set_by.Goals as goal

pub returns-in-Some : goal.returns-in-Some
returns-in-Some c =
    sym (ap (option_map (λ s. s.1)) (last_set c.args.time c.args.sets.now.entries _ _ (sym (c.range.ensures.between tt) ∙ c.in-Some.ensures.steps)))
