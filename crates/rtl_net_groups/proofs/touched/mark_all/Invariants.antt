use Rattle.std.proofs.Common.{◌≡◌, ℕ, ◌%◌, true, take, get_or, Contains}
use Rattle.rtl_net_groups.proofs.touched.mark_all.Given as goal

abbrev pub invariant-loop-number : goal.invariant-loop-number
invariant-loop-number l = record {
  marked : (p : ℕ) → Contains (take l.number-index l.numbers) p → get_or l.marks (p % 1024) true ≡ true;
  kept : (k : ℕ) → get_or l.initial.marks k true ≡ true → get_or l.marks k true ≡ true;
}
