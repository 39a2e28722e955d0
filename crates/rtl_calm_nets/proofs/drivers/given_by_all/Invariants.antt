use Rattle.std.proofs.Common.{◌≡◌, ◌<◌, ℕ, length}
use Rattle.rtl_model.specs.bodies.Types.{KeepsTypes}
use Rattle.rtl_net.specs.Core.{core}
use Rattle.rtl_calm_nets.specs.NetOrigins.{AreGiven, given_by}
use Rattle.rtl_calm_nets.proofs.drivers.given_by_all.Given as goal

abbrev pub invariant-loop-number : goal.invariant-loop-number
invariant-loop-number l = record {
  so_many : length l.all.items ≡ l.number;
  so_far : (p : ℕ) → p < l.number → AreGiven (core l.net) p (given_by l.all.items p);
  each_value : length l.values.items ≡ length l.net.types;
  values_keep : KeepsTypes l.net.types l.values.items;
}
