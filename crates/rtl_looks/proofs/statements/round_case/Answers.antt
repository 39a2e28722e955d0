use Rattle.std.proofs.lemmas.Result.{IfOk-weaker}
use Rattle.rtl_looks.proofs.Branching.{rounds}
use Rattle.rtl_looks.proofs.statements.round_case.Goals as goal

pub returns : goal.returns
returns c = IfOk-weaker c.join.result _ _ (λ look j. rounds c.in_ok-look.ensures j) c.join.ensures
