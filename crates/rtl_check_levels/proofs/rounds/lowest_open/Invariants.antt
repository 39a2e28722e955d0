use Rattle.std.proofs.Common.{take}
use Rattle.rtl_check_levels.specs.Lowest.{LowestOpen}
use Rattle.rtl_check_levels.proofs.rounds.lowest_open.Given as goal

abbrev pub invariant-loop-p : goal.invariant-loop-p
invariant-loop-p l = LowestOpen (take l.p-index l.processes) l.levels l.lowest
