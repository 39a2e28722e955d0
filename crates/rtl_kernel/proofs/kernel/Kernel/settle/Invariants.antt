use Rattle.std.proofs.Common.{◌≡◌}
use Rattle.rtl_model.specs.nets.CoreNetlist.{core_netlist}
use Rattle.rtl_model.specs.simulation.Moments.{HasDeltas, HasNoneToRun}
use Rattle.rtl_model.specs.simulation.Laws.{IsBusyBefore}
use Rattle.rtl_net.specs.Nets.{flat}
use Rattle.rtl_kernel.specs.kernel.Picked.{HasDeltasAsPicked}
use Rattle.rtl_kernel.proofs.kernel.Kernel.settle.Given as goal

abbrev pub invariant-loop-deltas : goal.invariant-loop-deltas
invariant-loop-deltas g l = record {
  net : l.self.net ≡ l.initial.self.net;
  ready : HasNoneToRun l.self.state;
  deltas : HasDeltas (core_netlist (flat l.initial.self.net)) l.deltas l.initial.self.state l.self.state;
  picked : HasDeltasAsPicked g.P.Pick.picks (core_netlist (flat l.initial.self.net)) l.deltas l.initial.pick l.pick l.initial.self.state l.self.state;
  busy : IsBusyBefore (core_netlist (flat l.initial.self.net)) l.initial.self.state l.deltas;
}
