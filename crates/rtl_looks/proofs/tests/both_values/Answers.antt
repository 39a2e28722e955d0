use Rattle.std.proofs.lemmas.Result.{IfOk-weaker}
use Rattle.rtl_looks.proofs.Operands.{sum_both}
use Rattle.rtl_looks.proofs.tests.both_values.Goals as goal

pub returns : goal.returns
returns c = IfOk-weaker c.join.result _ _ (λ look j. sum_both c.in_ok-left.ensures c.in_ok-right.ensures j) c.join.ensures
