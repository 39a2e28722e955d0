use Rattle.std.proofs.Common.{ℕ, drop, ap, ◌∙◌}
use Rattle.vhdl_slips.proofs.part.from.Goals as goal

pub returns : goal.returns
returns c = c.split_at.ensures.back ∙ ap (λ (n : ℕ). drop n c.args.tokens.now) c.len_before.ensures.value
