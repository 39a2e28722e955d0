use Rattle.rtl_calm_nets.proofs.Walking.{Walks, unmarked}
use Rattle.rtl_calm_nets.proofs.search.walk.Given as goal

abbrev pub invariant-loop-at : goal.invariant-loop-at
invariant-loop-at l = Walks l.steps l.marks l.path.items l.fn.from l.at

abbrev pub decreases-loop-at : goal.decreases-loop-at
decreases-loop-at l = unmarked l.marks
