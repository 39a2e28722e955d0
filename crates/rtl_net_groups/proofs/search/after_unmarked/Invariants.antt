use Rattle.std.proofs.Common.{◌-◌, ◌≤◌, length}
use Rattle.rtl_net_groups.specs.NextMarks.{AreUnmarked}
use Rattle.rtl_net_groups.proofs.search.after_unmarked.Given as goal

abbrev pub invariant-loop-place : goal.invariant-loop-place
invariant-loop-place l = record {
  later : l.from ≤ l.place;
  within : l.place ≤ length l.marks;
  unmarked : AreUnmarked l.marks l.from l.place;
}

abbrev pub decreases-loop-place : goal.decreases-loop-place
decreases-loop-place l = length l.marks - l.place
