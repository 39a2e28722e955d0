use Rattle.std.proofs.Common.{◌≡◌, ℕ, [], ◌<◌}
use Rattle.rtl_check_levels.specs.Finding.{IsFinding, IsRanked}
use Rattle.rtl_check_levels.proofs.finding.find.Given as goal

abbrev pub invariant-loop-q : goal.invariant-loop-q
invariant-loop-q l = record {
  sound : IsFinding l.counting l.table l.finding;
  done : l.finding.ready.items ≡ [];
  placed : (r : ℕ) → r < l.q → IsRanked l.table l.finding r;
}
