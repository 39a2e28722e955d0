use Rattle.std.proofs.Common.{◌≡◌, ◌<◌, ℕ, true, false, get_or}
use Rattle.rtl_net_groups.proofs.search.has_mark.Given as goal

abbrev pub invariant-loop-mark : goal.invariant-loop-mark
invariant-loop-mark l = record {
  none : l.any ≡ false → (k : ℕ) → k < l.mark-index → get_or l.marks k false ≡ false;
  some : l.any ≡ true → (k : ℕ) × (k < l.mark-index) × (get_or l.marks k false ≡ true);
}
