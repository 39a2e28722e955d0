use Rattle.std.proofs.Common.{◌≡◌, ℕ, ◌<◌, ◌≤◌, ◌⊎◌, true, false, get_or}
use Rattle.rtl_net_groups.proofs.touched.mark_each.Given as goal

abbrev pub invariant-loop-place : goal.invariant-loop-place
invariant-loop-place l = record {
  last : get_or l.marks l.last false ≡ true;
  there : (k : ℕ) → l.first ≤ k → k < l.place → get_or l.marks k false ≡ true;
  others : (k : ℕ) → (k < l.first) ⊎ (l.last < k) → get_or l.marks k false ≡ get_or l.fn.marks k false;
}
