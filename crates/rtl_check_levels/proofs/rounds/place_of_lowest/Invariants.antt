use Rattle.std.proofs.Common.{nat_lt}
use Rattle.std.specs.List.{IsFirstBest}
use Rattle.rtl_check_levels.proofs.rounds.place_of_lowest.Given as goal

abbrev pub invariant-loop-i : goal.invariant-loop-i
invariant-loop-i l = IsFirstBest nat_lt l.processes l.i l.best
