use Rattle.std.proofs.Common.{slice_index, ◌∙◌}
use Rattle.vhdl_elab.proofs.Adding.{run_more}
use Rattle.vhdl_elab.proofs.nets.push_defaults.Goals as goal

pub loop-k-preserved : goal.loop-k-preserved
loop-k-preserved c =
    c.in_ok-push.ensures.items ∙ run_more (slice_index c.args.starts.now) c.loop-k.k c.args.defaults.now.items c.loop-k.defaults.items _ c.loop-k.invariant c.start_at.ensures
