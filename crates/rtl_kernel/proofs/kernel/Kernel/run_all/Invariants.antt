use Rattle.std.proofs.Common.{◌≡◌, true}
use Rattle.std.specs.List.{count_by}
use Rattle.rtl_awaited_edges.specs.Awaiting.{IsAsleep, first_edge}
use Rattle.rtl_model.specs.nets.CoreNetlist.{core_netlist}
use Rattle.rtl_model.specs.simulation.Cycle.{State}
use Rattle.rtl_model.specs.simulation.Moments.{HasNoneToRun}
use Rattle.rtl_net.specs.Nets.{flat}
use Rattle.rtl_kernel.specs.kernel.Picked.{HasRunAsPicked}
use Rattle.rtl_kernel.proofs.kernel.Kernel.run_all.Given as goal

abbrev pub invariant-loop-left : goal.invariant-loop-left
invariant-loop-left g l = record {
  left : l.left ≡ count_by (λ b. b) l.self.state.waiting;
  none : l.left ≡ 0 → HasNoneToRun l.self.state;
  net : l.self.net ≡ l.initial.self.net;
  asleep : l.asleep ≡ true → IsAsleep (first_edge (core_netlist (flat l.self.net)).processes) l.self.state.before l.self.state.now;
  rest : (t : State) (last : g.row.P.Denot) → HasRunAsPicked g.P.Pick.picks (core_netlist (flat l.initial.self.net)) l.pick last l.self.state t
      → HasRunAsPicked g.P.Pick.picks (core_netlist (flat l.initial.self.net)) l.initial.pick last l.initial.self.state t;
}

abbrev pub decreases-loop-left : goal.decreases-loop-left
decreases-loop-left g l = l.left
