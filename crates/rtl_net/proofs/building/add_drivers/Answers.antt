use Rattle.std.proofs.Common.{◌<◌, length, arith}
use Rattle.rtl_net.specs.declared.process.Driver.{Driver}
use Rattle.rtl_net.proofs.Turns.{add-driver}
use Rattle.rtl_net.proofs.building.add_drivers.Goals as goal

pub loop-place-preserved : goal.loop-place-preserved
loop-place-preserved c =
    let e : Driver = record { net = 0; start = 0 } in
    let l : c.loop-place.place < length c.args.drives.now = omega (arith, c.loop-place-test.true) in
    let there = c.requires c.loop-place.place e l in
    add-driver c.args.process c.args.drives.now c.loop-place.place e c.args.table.now.items c.loop-place.table.items c.push.new.self c.index_mut.result.now
    l (omega (arith, there, c.loop-place.invariant.as_many)) c.index_mut.ensures.value c.in_ok-push.ensures.ok c.loop-place.invariant
