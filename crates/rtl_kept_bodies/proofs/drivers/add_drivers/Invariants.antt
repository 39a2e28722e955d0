use Rattle.std.proofs.Common.{◌≡◌, ◌++◌, map}
use Rattle.std.specs.Prelude.{slice_index}
use Rattle.std.specs.List.{range_with_len}
use Rattle.rtl_net.specs.Nets.{driver_view}
use Rattle.rtl_variable_registers.specs.Processes.{drivers_from}
use Rattle.rtl_kept_bodies.proofs.drivers.add_drivers.Given as goal

abbrev pub invariant-loop-k : goal.invariant-loop-k
invariant-loop-k l =
    map driver_view l.drives.items ≡ map driver_view l.initial.drives.items ++ drivers_from l.kept.net (map (slice_index l.starts) (range_with_len l.kept.element l.k))
