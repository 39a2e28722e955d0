use Rattle.std.proofs.Common.{◌≡◌, ℕ, true, get_or}
use Rattle.rtl_net_groups.proofs.MarkedLists.{AreMarked}
use Rattle.rtl_net_groups.proofs.touched.mark_others.Given as goal

-- the nets so far
abbrev pub invariant-loop-net : goal.invariant-loop-net
invariant-loop-net l = record {
  marked : AreMarked l.groups l.old l.new l.first l.net l.marks;
  kept : (k : ℕ) → get_or l.initial.marks k true ≡ true → get_or l.marks k true ≡ true;
}
