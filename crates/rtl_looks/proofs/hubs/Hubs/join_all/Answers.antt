use Rattle.std.proofs.Common.{arith}
use Rattle.rtl_looks.proofs.Elements.{joins_none, joins_more, joins_all}
use Rattle.rtl_looks.proofs.hubs.Hubs.join_all.Goals as goal

pub loop-place-init : goal.loop-place-init
loop-place-init c = joins_none c.args.self.now.hubs.items c.args.looks.now

pub loop-place-preserved : goal.loop-place-preserved
loop-place-preserved c = joins_more c.at.result (omega arith) c.at.ensures c.loop-place.invariant c.in_ok-all.ensures

pub returns : goal.returns
returns c = joins_all (omega arith) c.loop-place.invariant
