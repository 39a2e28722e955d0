use Rattle.rtl_net.specs.Core.{core}
use Rattle.rtl_levels.proofs.Leveling.{AreLevelsTo}
use Rattle.rtl_levels.proofs.levels.levels_of_nets.Given as goal

abbrev pub invariant-loop-process : goal.invariant-loop-process
invariant-loop-process l = AreLevelsTo (core l.net) l.levels l.process l.nets.items
