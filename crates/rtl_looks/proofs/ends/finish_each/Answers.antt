use Rattle.std.proofs.Common.{Option, None, subst}
use Rattle.rtl_looks.specs.declared.hubs.Look.{Look}
use Rattle.rtl_looks.specs.Parts.{Overs}
use Rattle.rtl_looks.proofs.Maps.{moves, none_left}
use Rattle.rtl_looks.proofs.Finishing.{finishes_none, finishes_more, finishes_all}
use Rattle.rtl_looks.proofs.ends.finish_each.Goals as goal

pub loop-number-init : goal.loop-number-init
loop-number-init c = finishes_none c.args.hubs.now.hubs.items c.args.parts c.args.table.now.looks.items c.args.changes.now.items c.args.ends.now

pub loop-number-preserved : goal.loop-number-preserved
loop-number-preserved c =
    finishes_more _ _ _ _ _ _ _ _ _ _ _ _ _ c.in-Some.number c.in-Some.end c.in_ok-look.look c.loop-number.invariant c.in-Some.ensures.value
    (moves c.in-Some.number None c.in-Some.ensures.updates)
    (subst (λ (o : Option Look). Overs c.loop-number.hubs.hubs.items c.over.new.hubs.hubs.items c.in-Some.end c.args.parts o c.in_ok-look.look) c.at.ensures c.in_ok-look.ensures)
    c.in_ok-put.ensures.put c.in_ok-put.ensures.kept

pub returns : goal.returns
returns c = finishes_all _ _ _ _ _ (none_left c.loop-number.ends.entries c.pop_first.result c.pop_first.ensures.variant c.in_default.is) c.loop-number.invariant
