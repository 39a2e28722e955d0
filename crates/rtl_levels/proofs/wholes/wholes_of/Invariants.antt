use Rattle.std.proofs.Common.{◌≡◌, map, take}
use Rattle.rtl_levels.specs.Scheduled.{whole_first}
use Rattle.rtl_levels.proofs.wholes.wholes_of.Given as goal

abbrev pub invariant-loop-process : goal.invariant-loop-process
invariant-loop-process l = l.wholes.items ≡ map whole_first (take l.process l.cuts.cuts)
