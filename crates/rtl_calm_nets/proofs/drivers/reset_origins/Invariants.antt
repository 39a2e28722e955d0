use Rattle.std.proofs.Common.{◌≡◌, map, take}
use Rattle.rtl_calm_nets.specs.NetOrigins.{register_origin}
use Rattle.rtl_calm_nets.proofs.drivers.reset_origins.Given as goal

abbrev pub invariant-loop-place : goal.invariant-loop-place
invariant-loop-place l = l.origins.items ≡ map (register_origin l.by) (take l.place l.entries.entries)
