use Rattle.std.proofs.Common.{ℕ, take, drop, ap, ◌∙◌}
use Rattle.vhdl_slips.specs.Words.{with_tokens}
use Rattle.vhdl_slips.proofs.lexed.Lexed.split_at.Goals as goal

pub returns-clause-before : goal.returns-clause-before
returns-clause-before c =
    ap (with_tokens c.args.self.text.now) (c.split_at.ensures.front ∙ ap (λ (n : ℕ). take n c.args.self.tokens.now) c.count_before.ensures.value)

pub returns-clause-from : goal.returns-clause-from
returns-clause-from c =
    ap (with_tokens c.args.self.text.now) (c.split_at.ensures.back ∙ ap (λ (n : ℕ). drop n c.args.self.tokens.now) c.count_before.ensures.value)
