use Rattle.rtl_net_groups.specs.NextMarks.{AreUnmarked}
use Rattle.rtl_net_groups.proofs.search.first_marked.Given as goal

abbrev pub invariant-loop-place : goal.invariant-loop-place
invariant-loop-place l = AreUnmarked l.marks l.from l.place
