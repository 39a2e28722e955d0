use Rattle.rtl_levels.proofs.FirstVisits.{AreTaken}
use Rattle.rtl_levels.proofs.schedule.marking_nets.Given as goal

abbrev pub invariant-loop-visit : goal.invariant-loop-visit
invariant-loop-visit l = AreTaken l.moving l.visits l.visit-index l.taken.items l.lists
