use Rattle.rtl_kept_bodies.proofs.Putting.{drivers_more, drivers_done}
use Rattle.rtl_kept_bodies.proofs.drivers.add_all_drivers.Goals as goal

pub loop-variable-preserved : goal.loop-variable-preserved
loop-variable-preserved c =
    let l = c.loop-variable in
    drivers_more c.args.starts.now _ l.drives.items _ c.args.kept.now l.variable-index _ c.loop-variable-test.true l.invariant c.in_ok-add_drivers.ensures

pub returns : goal.returns
returns c =
    let l = c.loop-variable in
    drivers_done c.args.starts.now _ l.drives.items c.args.kept.now l.variable-index c.loop-variable-test.false l.invariant
