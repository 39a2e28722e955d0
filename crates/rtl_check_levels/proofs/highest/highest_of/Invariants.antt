use Rattle.std.proofs.Common.{take}
use Rattle.rtl_check_levels.specs.Levels.{IsHighest}
use Rattle.rtl_check_levels.proofs.highest.highest_of.Given as goal

abbrev pub invariant-loop-row : goal.invariant-loop-row
invariant-loop-row l = IsHighest l.counting (take l.row-index l.rows) l.levels l.from l.highest.level l.highest.row
