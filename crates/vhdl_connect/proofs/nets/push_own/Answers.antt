use Rattle.std.proofs.Common.{◌∙◌, refl}
use Rattle.vhdl_connect.proofs.Numbered.{run_next}
use Rattle.vhdl_connect.proofs.nets.push_own.Goals as goal

pub loop-k-preserved : goal.loop-k-preserved
loop-k-preserved c = c.in_ok-push.ensures.items ∙ run_next c.args.nets.now.items c.loop-k.nets.items c.args.first c.loop-k.k _ c.loop-k.invariant refl
