use Rattle.std.proofs.Common.{◌≡◌, length, drop}
use Rattle.rtl_check_nets.specs.declared.table.NetTable.{NetTable}
use Rattle.rtl_check_nets.specs.Building.{AddsDrivers}
use Rattle.rtl_check_nets.proofs.table.NetTable.add_drivers.Given as goal

abbrev pub invariant-loop-place : goal.invariant-loop-place
invariant-loop-place l = record {
  each : length l.self.rows.items ≡ length l.initial.self.rows.items;
  each_count : length l.self.counts.items ≡ length l.initial.self.counts.items;
  adds : (new : NetTable) → AddsDrivers l.nets l.looks l.place (drop l.place l.drives) l.self new → AddsDrivers l.nets l.looks 0 l.drives l.initial.self new;
}
