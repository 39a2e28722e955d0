use Rattle.std.proofs.Common.{ap}
use Rattle.std.specs.List.{list_all}
use Rattle.std.proofs.lemmas.List.{take_all, get_or_default}
use Rattle.rtl_kept_bodies.specs.Steps.{knows}
use Rattle.rtl_kept_bodies.proofs.Knowing.{needs_as, needs_none, listed_needs}
use Rattle.rtl_kept_bodies.proofs.constants.Known.need_listed.Goals as goal

pub loop-element-init : goal.loop-element-init
loop-element-init c = needs_none c.args.self.now

pub loop-element-preserved : goal.loop-element-preserved
loop-element-preserved c =
    let l = c.loop-element in
    listed_needs c.args.elements.now l.element-index _ c.loop-element-test.true (get_or_default c.args.elements.now l.element-index 0 _ c.loop-element-test.true) l.invariant c.need.ensures

pub returns : goal.returns
returns c =
    let l = c.loop-element in
    needs_as _ (ap (list_all (knows c.args.self.now.elements.items)) (take_all l.element-index c.args.elements.now c.loop-element-test.false)) l.invariant
