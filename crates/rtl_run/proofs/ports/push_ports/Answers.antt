use Rattle.std.proofs.Common.{[], sym, subst}
use Rattle.rtl_net.specs.Nets.{SignalView, signal_view}
use Rattle.byte_streams.specs.Written.{Goes}
use Rattle.byte_streams.proofs.Writing.{Goes-next}
use Rattle.rtl_stim.proofs.PortLemmas.{has_nets, few_nets, view_there, place_there}
use Rattle.rtl_run.specs.Evaluated.{port_text}
use Rattle.rtl_run.proofs.ports.push_ports.Goals as goal

pub push_port-requires : goal.push_port-requires
push_port-requires g c = record {
  some = has_nets c.args.net.now c.is_elaborated.ensures c.signals-signal-items.result.now c.signals-signal-items.ensures c.loop-signal.signal-index
      c.signal-item.result c.loop-signal-test.true c.signal-item.is;
  few = few_nets c.args.net.now c.is_elaborated.ensures c.signals-signal-items.result.now c.signals-signal-items.ensures c.loop-signal.signal-index
      c.signal-item.result c.loop-signal-test.true c.signal-item.is;
}

pub loop-signal-preserved : goal.loop-signal-preserved
loop-signal-preserved g c =
    let net = c.args.net.now in
    let signals = c.signals-signal-items.result.now in
    let views = c.signals-signal-items.ensures in
    let at = c.loop-signal.signal-index in
    let s = c.signal-item.result in
    let before = g.W.Sink.state c.loop-signal.out in
    let new = g.W.Sink.state c.push_port.new.out in
    let text = port_text net c.args.values.now in
    let view = view_there net c.is_elaborated.ensures signals views at s c.loop-signal-test.true c.signal-item.is in
    let there = place_there net c.is_elaborated.ensures signals views at s c.loop-signal-test.true c.signal-item.is in
    Goes-next (g.W.Sink.state c.args.out.now) before new [] text net.signals at (signal_view s) there c.loop-signal.invariant
    (subst (λ (v : SignalView). Goes before new (text v)) (sym view) c.push_port.ensures)
