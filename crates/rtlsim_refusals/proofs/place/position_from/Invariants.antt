use Rattle.std.proofs.Common.{◌≡◌, ◌+◌, ◌≤◌, length}
use Rattle.rtlsim_refusals.specs.Places.{position_from}
use Rattle.rtlsim_refusals.proofs.place.position_from.Given as goal

-- what is left is counted on from this line and column
abbrev pub invariant-loop-left : goal.invariant-loop-left
invariant-loop-left l = record {
  same : position_from l.line l.column l.left ≡ position_from l.fn.here.line l.fn.here.column l.bytes;
  line_fits : l.line + length l.left ≤ l.fn.here.line + length l.bytes;
  column_fits : l.column + length l.left ≤ l.fn.here.column + length l.bytes;
}

abbrev pub decreases-loop-left : goal.decreases-loop-left
decreases-loop-left l = length l.left
