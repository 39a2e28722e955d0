use Rattle.std.proofs.Common.{◌≡◌, ◌<◌, ◌≤◌, ◌⊎◌, ℕ, get_or, Contains}
use Rattle.rtl_levels.proofs.schedule.push_below.Given as goal

abbrev pub invariant-loop-place : goal.invariant-loop-place
invariant-loop-place l = record {
  from_on : l.from ≤ l.place;
  below : (k : ℕ) → l.from ≤ k → k < l.place → (get_or l.moving k (0, 0)).0 < l.level;
  added : (n : ℕ) → (Contains l.marking.items n → Contains l.initial.marking.items n ⊎ ((k : ℕ) × (l.from ≤ k) × (k < l.place) × ((get_or l.moving k (0, 0)).1 ≡ n)))
      × (Contains l.initial.marking.items n ⊎ ((k : ℕ) × (l.from ≤ k) × (k < l.place) × ((get_or l.moving k (0, 0)).1 ≡ n)) → Contains l.marking.items n);
}
