use Rattle.std.specs.Prelude.{◌≡◌, ◌-◌, ◌≤◌, take, length}
use Rattle.rtl_eval.specs.Combined.{combined}
use Rattle.rtl_eval.proofs.combining.combine_digits.Given as goal

abbrev pub invariant-loop-at : goal.invariant-loop-at
invariant-loop-at l = record {
  within : l.at ≤ length l.left;
  room : length l.out ≡ length l.left;
  before : take l.at l.out ≡ take l.at (combined l.logic l.left l.right);
}

abbrev pub decreases-loop-at : goal.decreases-loop-at
decreases-loop-at l = length l.left - l.at
