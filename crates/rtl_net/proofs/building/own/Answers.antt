use Rattle.std.proofs.Common.{◌≡◌, ◌-◌, suc, arith}
use Rattle.rtl_net.proofs.Turns.{own-one}
use Rattle.rtl_net.proofs.building.own.Goals as goal

pub loop-place-preserved : goal.loop-place-preserved
loop-place-preserved c =
    let k = c.loop-place.place - 1 in
    let step : c.loop-place.place ≡ suc k = omega (arith, c.loop-place-test.true) in
    let within = c.loop-place.invariant.0 in
    let owns = c.loop-place.invariant.1 in
    let there = c.requires k 0 (omega (arith, step, within)) in
    (omega (arith, within), own-one c.args.signal c.args.nets.now k c.loop-place.place c.args.owners.now.items c.loop-place.owners.items step within (omega (arith, there, owns.as_many)) owns)
