use Rattle.std.proofs.Common.{sym, ◌∙◌, arith}
use Rattle.rtl_eval.specs.Running.{met_by}
use Rattle.rtl_eval.specs.Seeing.{seen_of}
use Rattle.rtl_eval.proofs.Found.{none_more}
use Rattle.rtl_eval.proofs.statements.first_met.Goals as goal

pub loop-at-preserved : goal.loop-at-preserved
loop-at-preserved c =
    none_more (met_by (seen_of c.args.seen)) c.args.branches.now c.loop-at.at c.index-branches-at.result (omega (arith, c.loop-at-test.true))
    (sym c.is_met.ensures ∙ c.if-is_met.false) c.loop-at.invariant
