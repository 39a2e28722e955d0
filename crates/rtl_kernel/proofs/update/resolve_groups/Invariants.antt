use Rattle.std.proofs.Common.{◌≡◌, take, Contains}
use Rattle.rtl_model.specs.nets.CoreNetlist.{core_netlist}
use Rattle.rtl_net.specs.Nets.{flat}
use Rattle.rtl_kernel.specs.drivers.Resolved.{AreResolved}
use Rattle.rtl_kernel.specs.drivers.Rows.{rows}
use Rattle.rtl_kernel.specs.values.TwoValues.{group_of}
use Rattle.rtl_kernel.proofs.update.resolve_groups.Given as goal

abbrev pub invariant-loop-group : goal.invariant-loop-group
invariant-loop-group l = record {
  groups : l.values.groups ≡ l.initial.values.groups;
  before : l.values.before ≡ l.initial.values.before;
  resolved : AreResolved (core_netlist (flat l.net)) (rows l.drivers) (λ n. Contains (take l.group-index l.groups) (group_of l.initial.values n))
      l.initial.values.current l.values.current;
}
