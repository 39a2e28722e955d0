use Rattle.std.proofs.Common.{◌≡◌, ℕ, ◌<◌, true, false, length, get_or}
use Rattle.rtl_net.specs.Nets.{flat}
use Rattle.rtl_kernel.specs.drivers.Brought.{IsAlone}
use Rattle.rtl_kernel.proofs.wakes.alone_groups.Given as goal

abbrev pub invariant-loop-group : goal.invariant-loop-group
invariant-loop-group l = record {
  as_many : length l.alone.items ≡ l.group;
  each : (g : ℕ) → g < l.group → get_or l.alone.items g false ≡ true → IsAlone (flat l.net) (get_or l.groups.first g 0);
}
