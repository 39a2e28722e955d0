use Rattle.std.proofs.Common.{length, ap, sym, ◌∙◌}
use Rattle.rtl_net.specs.Nets.{NetlistView}
use Rattle.rtl_simulation.proofs.event_engine.EventEngineEngine.values.Goals as goal

pub returns-clause-shows : goal.returns-clause-shows
returns-clause-shows g c r m A = record {
  comes = record { deltas = A.deltas; settles = record { state = c.args.self.now.kernel.state; settled = A.settled; values = sym c.values.ensures.value }; within = A.within };
  as_many = c.values.ensures.as_many ∙ ap (λ (n : NetlistView). length n.types) A.of.net;
}
