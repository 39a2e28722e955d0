use Rattle.std.proofs.Common.{◌≡◌, ◌<◌, ◌↔◌, ℕ, false, IsTrue, length, get_or}
use Rattle.rtl_model.specs.simulation.Calm.{IsFromOutside}
use Rattle.rtl_net.specs.Core.{core}
use Rattle.rtl_calm_nets.proofs.outside.outside_nets.Given as goal

abbrev pub invariant-loop-number : goal.invariant-loop-number
invariant-loop-number l = record {
  so_many : length l.outside.items ≡ l.number;
  so_far : (n : ℕ) → n < l.number → IsTrue (get_or l.outside.items n false) ↔ IsFromOutside (core l.net) n;
}
