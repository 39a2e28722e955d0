use Rattle.std.proofs.Common.{ℕ, ◌≤◌, ◌⊎◌, length}
use Rattle.rtl_check_levels.specs.Finding.{IsFinding, IsAmong, IsRanked, Grows}
use Rattle.rtl_check_levels.proofs.finding.Finding.place_all.Given as goal

abbrev pub invariant-loop-at : goal.invariant-loop-at
invariant-loop-at l = record {
  sound : IsFinding l.counting l.table l.self;
  grows : Grows l.initial.self l.self;
  within : l.at ≤ length l.self.waits.items;
  left : (q : ℕ) → IsAmong l.initial.self.waits.items l.last q → IsRanked l.table l.self q ⊎ IsAmong l.self.waits.items l.at q;
}

abbrev pub decreases-loop-at : goal.decreases-loop-at
decreases-loop-at l = l.at
