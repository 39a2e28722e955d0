use Rattle.std.proofs.Common.{◌∙◌}
use Rattle.vhdl_hints.proofs.Folds.{begun_more}
use Rattle.vhdl_hints.proofs.end_name.last_begun.Goals as goal

pub loop-left-preserved : goal.loop-left-preserved
loop-left-preserved c = rw c.begun_at-found.ensures (
    begun_more c.args.word c.loop-left.found c.loop-left.left.now c.in-len1-up.len_at_least ∙ c.loop-left.invariant
    )
