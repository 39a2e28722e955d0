use Rattle.std.proofs.Common.{ℕ, ◌-◌, ◌<◌, ◌≤◌, length}
use Rattle.std.specs.Prelude.{slice_index, IsSome}
use Rattle.rtl_check_levels.specs.Levels.{level_of}
use Rattle.rtl_check_levels.proofs.highest.first_open.Given as goal

abbrev pub invariant-loop-at : goal.invariant-loop-at
invariant-loop-at l = record {
  within : l.at ≤ length l.rows;
  later : l.from ≤ l.at;
  passed : (k : ℕ) → l.from ≤ k → k < l.at → IsSome (level_of l.levels (slice_index l.rows k));
}

abbrev pub decreases-loop-at : goal.decreases-loop-at
decreases-loop-at l = length l.rows - l.at
