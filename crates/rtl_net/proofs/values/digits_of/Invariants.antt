use Rattle.std.proofs.Common.{◌≡◌, length, map, take}
use Rattle.vhdl_values.specs.Scalar.{value_of_code}
use Rattle.rtl_net.proofs.values.digits_of.Given as goal

-- the values before this one are there
abbrev pub invariant-loop-place : goal.invariant-loop-place
invariant-loop-place l =
    (take l.place l.digits ≡ map value_of_code (take l.place l.values)) × (length l.digits ≡ 64)
