use Rattle.std.proofs.lemmas.Result.{IfOk-weaker}
use Rattle.rtl_looks.proofs.Operands.{summed}
use Rattle.rtl_looks.proofs.values.expr_look.Goals as goal

pub returns : goal.returns
returns c = IfOk-weaker c.join_all.result _ _ (λ look j. summed c.in_ok-looks.ensures (rw c.deref.ensures.value at j)) c.join_all.ensures
