use Rattle.std.proofs.Common.{◌<◌, length, arith}
use Rattle.rtl_net.specs.declared.building.IdlePort.{IdlePort}
use Rattle.rtl_net.proofs.Turns.{add-idle}
use Rattle.rtl_net.proofs.building.add_idle.Goals as goal

pub loop-port-preserved : goal.loop-port-preserved
loop-port-preserved c =
    let e : IdlePort = record { net = 0; start = 0 } in
    let l : c.loop-port.port-index < length c.args.idle.now = omega (arith, c.loop-port-test.true) in
    let there = c.requires c.loop-port.port-index e l in
    add-idle c.args.idle.now c.loop-port.port-index e c.args.table.now.items c.loop-port.table.items c.push.new.self c.index_mut.result.now
    l (omega (arith, there, c.loop-port.invariant.as_many)) c.index_mut.ensures.value c.in_ok-push.ensures.ok c.loop-port.invariant
