use Rattle.std.proofs.Common.{◌≡◌, ℕ, ◌-◌, ◌/◌, ◌<◌, ◌≤◌, true, false, length, get_or}
use Rattle.std.specs.Prelude.{slice_index}
use Rattle.rtl_net_groups.specs.Touching.{KeepsLeft}
use Rattle.rtl_net_groups.proofs.touched.Touched.bring.Given as goal

abbrev pub invariant-loop-chunk : goal.invariant-loop-chunk
invariant-loop-chunk l = record {
  within : l.chunk ≤ length l.self-inside.marks.items;
  marked : l.chunk < length l.self-inside.marks.items → get_or l.self-inside.marks.items l.chunk false ≡ true;
  done : (n : ℕ) → n < length l.from → n / 256 < l.chunk → slice_index l.to n ≡ slice_index l.from n;
  left : KeepsLeft l.self l.to l.from;
}

abbrev pub decreases-loop-chunk : goal.decreases-loop-chunk
decreases-loop-chunk l = length l.self-inside.marks.items - l.chunk
