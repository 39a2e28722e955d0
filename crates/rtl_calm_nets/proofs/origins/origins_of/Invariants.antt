use Rattle.std.proofs.Common.{◌≡◌, ◌<◌, ℕ, length}
use Rattle.rtl_net.specs.Core.{core}
use Rattle.rtl_calm_nets.specs.NetOrigins.{IsOrigin, given_at}
use Rattle.rtl_calm_nets.proofs.origins.origins_of.Given as goal

abbrev pub invariant-loop-number : goal.invariant-loop-number
invariant-loop-number l = record {
  so_many : length l.origins.items ≡ l.number;
  so_far : (n : ℕ) → n < l.number → IsOrigin (core l.net) n (given_at l.origins.items n);
}
