use Rattle.std.proofs.Common.{◌≡◌, ◌<◌, ℕ, length}
use Rattle.rtl_looks.specs.Denoting.{look_at}
use Rattle.rtl_calm_nets.specs.NetOrigins.{given_at, combinational_origin}
use Rattle.rtl_calm_nets.specs.OutsideLooks.{place_outside}
use Rattle.rtl_calm_nets.proofs.drivers.combinational_origins.Given as goal

abbrev pub invariant-loop-place : goal.invariant-loop-place
invariant-loop-place l = record {
  so_many : length l.origins.items ≡ l.place;
  so_far : (k : ℕ) → k < l.place → given_at l.origins.items k ≡ combinational_origin (place_outside l.outside l.marks.items (look_at l.looks.items k)) l.copy k;
}
