use Rattle.std.proofs.Common.{◌≡◌, map, take}
use Rattle.rtl_net.specs.Core.{core}
use Rattle.rtl_levels.specs.Scheduled.{clocked_wakes}
use Rattle.rtl_levels.proofs.schedule.wakes_of_clocked.Given as goal

abbrev pub invariant-loop-number : goal.invariant-loop-number
invariant-loop-number l = l.lists ≡ map clocked_wakes (take l.number (core l.net).processes)
