use Rattle.std.proofs.Common.{length, ap, sym, ◌∙◌}
use Rattle.rtl_net.specs.Core.{core}
use Rattle.rtl_net.specs.Nets.{NetlistView}
use Rattle.rtl_stim.specs.Stimuli.{inputs_at}
use Rattle.rtl_simulation.proofs.Events.{settles, stuck}
use Rattle.rtl_simulation.proofs.Moments.{most_first}
use Rattle.rtl_simulation.proofs.Results.{fails_with}
use Rattle.rtl_simulation.proofs.event_engine.EventEngineEngine.start.Goals as goal

pub settle-requires : goal.settle-requires
settle-requires g c =
    let B = c.requires.1 in
    record { ready = B.of.ready; nets = B.of.nets ∙ ap (λ (n : NetlistView). length n.types) (sym B.of.net) }

pub returns-in_err-deltas-clause-starts : goal.returns-in_err-deltas-clause-starts
returns-in_err-deltas-clause-starts g c r B =
    fails_with _ _ c.from_residual.result c.in_err-deltas.field-0.0 c.from_residual.ensures.1
    (stuck r 0 c.args.self.now.kernel B.of.net B.begun c.args.self.now.limit B.of.limit_is 0 c.settle.new.kernel.state _ _ c.in_err-deltas.ensures.settled.0 c.in_err-deltas.ensures.settled.1
    (λ first stands told. c.in_err-deltas.ensures.stuck first stands told))

pub returns-clause-starts : goal.returns-clause-starts
returns-clause-starts g c r B =
    settles r 0 c.args.self.now.kernel B.of.net B.begun c.args.self.now.limit B.of.limit_is B.of.course c.settle.new.kernel c.settle.new.touched c.in_ok-deltas.deltas c.in_ok-deltas.deltas
    c.settle.ensures.net c.settle.ensures.ready (c.settle.ensures.touched.nets_stay ∙ B.of.nets) c.in_ok-deltas.ensures.settled.0 c.in_ok-deltas.ensures.settled.1
    (λ takes. most_first (core r.net) (inputs_at r.stimulus) c.in_ok-deltas.deltas takes)
