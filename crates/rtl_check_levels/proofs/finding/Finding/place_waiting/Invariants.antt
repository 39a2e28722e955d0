use Rattle.std.proofs.Common.{ℕ}
use Rattle.rtl_check_levels.specs.Finding.{IsFinding, IsRanked, work_left}
use Rattle.rtl_check_levels.proofs.finding.Finding.place_waiting.Given as goal

abbrev pub invariant-loop-last : goal.invariant-loop-last
invariant-loop-last l = record {
  sound : IsFinding l.counting l.table l.self;
  ranked : (q : ℕ) → IsRanked l.table l.initial.self q → IsRanked l.table l.self q;
}

abbrev pub decreases-loop-last : goal.decreases-loop-last
decreases-loop-last l = work_left l.self
