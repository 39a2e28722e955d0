use Rattle.std.specs.Prelude.{◌≡◌, ℕ, ◌-◌, ◌≤◌, ◌⊎◌, true, false, take, length, slice_index}
use Rattle.rtl_net_groups.specs.Written.{IsOtherFrom}
use Rattle.rtl_net_groups.proofs.slices.replace_lanes.Given as goal

abbrev pub invariant-loop-at : goal.invariant-loop-at
invariant-loop-at g l = record {
  grows : l.from ≤ l.at;
  within : l.at ≤ length l.values;
  as_many : length l.over ≡ length l.values;
  before : take l.at l.over ≡ take l.at l.values;
  alike : l.differ ≡ false → (l.initial.differ ≡ false) × (l.initial.over ≡ l.over);
  behind : (k : ℕ) → l.at ≤ k → slice_index l.over k ≡ slice_index l.initial.over k;
  other : l.differ ≡ true → (l.initial.differ ≡ true) ⊎ IsOtherFrom l.from l.values l.initial.over;
}

abbrev pub decreases-loop-at : goal.decreases-loop-at
decreases-loop-at g l = length l.values - l.at
