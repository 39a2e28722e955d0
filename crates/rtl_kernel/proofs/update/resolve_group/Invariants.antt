use Rattle.std.proofs.Common.{◌≡◌, ◌<◌, ◌≤◌}
use Rattle.rtl_model.specs.nets.CoreNetlist.{core_netlist}
use Rattle.rtl_net.specs.Nets.{flat}
use Rattle.rtl_kernel.specs.drivers.Resolved.{AreResolved}
use Rattle.rtl_kernel.specs.drivers.Rows.{rows}
use Rattle.rtl_kernel.proofs.update.resolve_group.Given as goal

abbrev pub invariant-loop-each : goal.invariant-loop-each
invariant-loop-each l = record {
  groups : l.values.groups ≡ l.initial.values.groups;
  before : l.values.before ≡ l.initial.values.before;
  resolved : AreResolved (core_netlist (flat l.net)) (rows l.drivers) (λ n. (l.first ≤ n) × (n < l.each)) l.initial.values.current l.values.current;
}
