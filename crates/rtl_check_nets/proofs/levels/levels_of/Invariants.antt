use Rattle.std.proofs.Common.{◌≤◌, ◌+◌, length}
use Rattle.rtl_net.specs.Core.{core}
use Rattle.rtl_check_nets.proofs.Leveling.{IsLeveled}
use Rattle.rtl_check_nets.proofs.levels.levels_of.Given as goal

abbrev pub invariant-loop-process : goal.invariant-loop-process
invariant-loop-process l = IsLeveled (core l.net) l.rows l.process l.levels.items l.from.items l.greatest
