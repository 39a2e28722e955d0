use Rattle.std.proofs.Common.{sym, ◌∙◌}
use Rattle.rtl_eval.proofs.Codes.{one_element, ahead, behind}
use Rattle.rtl_eval.proofs.evaluated.has_code.Goals as goal

pub returns-then-len-eq1-clause-ahead : goal.returns-then-len-eq1-clause-ahead
returns-then-len-eq1-clause-ahead c =
    ahead c.args.values.now c.get.result c.code.result c.args.code (one_element c.args.values.now c.get.result (sym c.len.ensures.len ∙ c.if-len-eq1.true) c.get.ensures) c.code.ensures.code

pub returns-then-len-eq1-clause-behind : goal.returns-then-len-eq1-clause-behind
returns-then-len-eq1-clause-behind c =
    behind c.args.values.now c.get.result c.code.result c.args.code (one_element c.args.values.now c.get.result (sym c.len.ensures.len ∙ c.if-len-eq1.true) c.get.ensures) c.code.ensures.code
