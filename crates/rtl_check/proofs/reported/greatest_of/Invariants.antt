use Rattle.rtl_check.specs.Reported.{IsGreatestTo}
use Rattle.rtl_check.proofs.reported.greatest_of.Given as goal

abbrev pub invariant-loop-k : goal.invariant-loop-k
invariant-loop-k l = IsGreatestTo l.levels l.k l.greatest
