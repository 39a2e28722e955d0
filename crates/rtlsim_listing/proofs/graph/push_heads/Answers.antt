use Rattle.std.proofs.Common.{◌+◌, arith}
use Rattle.rtlsim_listing.specs.DotText.{column_text}
use Rattle.rtlsim_listing.proofs.Printing.{next_line}
use Rattle.rtlsim_listing.proofs.graph.push_heads.Goals as goal

pub loop-before-preserved : goal.loop-before-preserved
loop-before-preserved g c =
    next_line _ _ _ column_text c.loop-before.before (c.loop-before.before + 1) (omega arith) c.loop-before.invariant c.push_head.ensures
