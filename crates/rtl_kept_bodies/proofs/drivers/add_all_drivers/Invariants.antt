use Rattle.std.proofs.Common.{◌≡◌, ◌++◌, map, drop}
use Rattle.rtl_net.specs.Nets.{driver_view}
use Rattle.rtl_kept_bodies.specs.Steps.{all_drivers_of}
use Rattle.rtl_kept_bodies.proofs.drivers.add_all_drivers.Given as goal

abbrev pub invariant-loop-variable : goal.invariant-loop-variable
invariant-loop-variable l =
    map driver_view l.drives.items ++ all_drivers_of l.starts (drop l.variable-index l.kept) ≡ map driver_view l.initial.drives.items ++ all_drivers_of l.starts l.kept
