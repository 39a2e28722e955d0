use Rattle.vhdl_expand_processes.proofs.Walks.{one_listed, all_listed}
use Rattle.vhdl_expand_processes.proofs.reads.of_list.Goals as goal

pub loop-index-preserved : goal.loop-index-preserved
loop-index-preserved c = one_listed _ c.args.listed.now c.loop-index.found.items _ c.loop-index.index-index c.loop-index-test.true c.loop-index.invariant c.in_ok-push.ensures.items

pub returns : goal.returns
returns c = all_listed _ c.args.listed.now c.loop-index.found.items c.loop-index.index-index c.loop-index-test.false c.loop-index.invariant
