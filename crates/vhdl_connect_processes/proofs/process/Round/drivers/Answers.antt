use Rattle.std.proofs.Common.{map, get_or, ap, refl, ◌∙◌}
use Rattle.rtl_net.specs.Nets.{driver_view}
use Rattle.vhdl_connect_processes.specs.Located.{driver_in}
use Rattle.vhdl_connect_processes.proofs.Lists.{take_whole}
use Rattle.vhdl_connect_processes.proofs.Taking.{driver_next}
use Rattle.vhdl_connect_processes.proofs.process.Round.drivers.Goals as goal

pub loop-element-preserved : goal.loop-element-preserved
loop-element-preserved c =
    let es = c.args.elements.now in
    let i = c.loop-element.element-index in
    ap (map driver_view) c.in_ok-push.ensures.items
    ∙ driver_next c.args.self.now.nets.now c.args.self.now.defaults.now es i (get_or es i 0) c.loop-element.drivers.items (record { net = c.net_at.result; start = c.default_at.result })
    c.loop-element-test.true refl c.net_at.ensures c.default_at.ensures c.loop-element.invariant

pub returns : goal.returns
returns c =
    c.loop-element.invariant
    ∙ ap (map (driver_in c.args.self.now.nets.now c.args.self.now.defaults.now)) (take_whole c.args.elements.now c.loop-element.element-index c.loop-element-test.false)
