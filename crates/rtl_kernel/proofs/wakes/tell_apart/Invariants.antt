use Rattle.std.proofs.Common.{◌≡◌, ◌↔◌, ℕ, ◌<◌, ◌%◌, length, get_or}
use Rattle.rtl_net.specs.Nets.{flat}
use Rattle.rtl_kernel.specs.drivers.Brought.{IsAlone}
use Rattle.rtl_kernel.proofs.wakes.tell_apart.Given as goal

abbrev pub invariant-loop-each : goal.invariant-loop-each
invariant-loop-each l = record {
  as_many : length l.declared.items ≡ length l.initial.declared.items;
  apart : (n : ℕ) → n < l.each → IsAlone (flat l.net) n ↔ (get_or l.declared.items n 0 % 2 ≡ 1);
}
