use Rattle.std.proofs.Common.{◌≡◌, ℕ, ◌+◌, ◌<◌, get_or}
use Rattle.rtl_net_groups.proofs.cuts.run_from.Given as goal

abbrev pub invariant-loop-at : goal.invariant-loop-at
invariant-loop-at l = (k : ℕ) → k < l.at → (get_or l.targets (l.place + k) 0 ≡ l.net + k) × (get_or l.of_net (l.net + k) 0 ≡ get_or l.of_net l.net 0)
