use Rattle.std.proofs.Common.{◌≡◌, drop}
use Rattle.std.specs.List.{list_any}
use Rattle.rtl_net.specs.Core.{core}
use Rattle.rtl_process_kinds.specs.Drivers.{is_driven}
use Rattle.rtl_process_kinds.proofs.driven.follows_driver.Given as goal

abbrev pub invariant-loop-wake : goal.invariant-loop-wake
invariant-loop-wake l = list_any (is_driven (core l.net)) (drop l.wake-index l.wakes) ≡ list_any (is_driven (core l.net)) l.wakes
