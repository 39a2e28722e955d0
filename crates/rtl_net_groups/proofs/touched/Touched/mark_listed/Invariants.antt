use Rattle.std.proofs.Common.{◌≡◌, ℕ, ◌-◌, ◌/◌, ◌%◌, ◌<◌, ◌≤◌, true, false, length, get_or}
use Rattle.std.specs.Prelude.{slice_index}
use Rattle.rtl_net_groups.specs.Groups.{IsListed}
use Rattle.rtl_net_groups.proofs.touched.Touched.mark_listed.Given as goal

abbrev pub invariant-loop-chunk : goal.invariant-loop-chunk
invariant-loop-chunk l = record {
  within : l.chunk ≤ length l.self-inside.marks.items;
  done : (p n : ℕ) → n < l.self-inside.nets → n / 256 < l.chunk → IsListed l.groups p n → get_or l.marks (p % 1024) true ≡ false → slice_index l.old n ≡ slice_index l.new n;
}

abbrev pub decreases-loop-chunk : goal.decreases-loop-chunk
decreases-loop-chunk l = length l.self-inside.marks.items - l.chunk
