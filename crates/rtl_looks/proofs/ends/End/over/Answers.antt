use Rattle.std.proofs.Common.{sym, ◌∙◌}
use Rattle.std.proofs.lemmas.Result.{IfOk-weaker}
use Rattle.rtl_looks.proofs.Parting.{over_more}
use Rattle.rtl_looks.proofs.ends.End.over.Goals as goal

pub returns-then-skips : goal.returns-then-skips
returns-then-skips c = IfOk-weaker c.join.result _ _ (λ look j. over_more (sym c.skips.ensures ∙ c.if-skips.true) j) c.join.ensures
