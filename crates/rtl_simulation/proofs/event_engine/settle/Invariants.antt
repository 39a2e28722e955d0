use Rattle.std.proofs.Common.{◌≡◌}
use Rattle.rtl_model.specs.simulation.Moments.{HasDeltas, HasNoneToRun}
use Rattle.rtl_model.specs.simulation.Laws.{IsBusyBefore}
use Rattle.rtl_net.specs.Core.{core}
use Rattle.rtl_net_groups.specs.Touching.{Touches}
use Rattle.rtl_simulation.proofs.event_engine.settle.Given as goal

abbrev pub invariant-loop-deltas : goal.invariant-loop-deltas
invariant-loop-deltas g l = record {
  net : l.kernel.net ≡ l.initial.kernel.net;
  ready : HasNoneToRun l.kernel.state;
  deltas : HasDeltas (core l.initial.kernel.net) l.deltas l.initial.kernel.state l.kernel.state;
  busy : IsBusyBefore (core l.initial.kernel.net) l.initial.kernel.state l.deltas;
  touched : Touches l.initial.touched l.touched l.initial.kernel.state.now l.kernel.state.now;
}
