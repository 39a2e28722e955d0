use Rattle.std.proofs.Common.{ℕ, take, ap, ◌∙◌}
use Rattle.vhdl_expected.proofs.Walks.{statement_is}
use Rattle.vhdl_expected.proofs.reading.statement.Goals as goal

pub returns : goal.returns
returns c =
    ap (λ (n : ℕ). take n c.args.tokens.now) c.min.ensures
    ∙ statement_is c.count_ahead-count.result c.args.tokens.now c.in-len1-up.len_at_least c.count_ahead-count.ensures.value
