use Rattle.std.proofs.Common.{◌≡◌, ℕ, ◌-◌, ◌<◌, false, length, get_or}
use Rattle.rtl_net_groups.proofs.beginnings.by_declaration.Given as goal

abbrev pub invariant-loop-net : goal.invariant-loop-net
invariant-loop-net l = record {
  as_many : length l.begins.items ≡ l.net;
  alike : (n : ℕ) → n < l.net → get_or l.begins.items n false ≡ false → (0 < n) × (get_or l.declared (n - 1) 0 ≡ get_or l.declared n 0);
}
