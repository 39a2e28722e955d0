use Rattle.std.proofs.Common.{◌≡◌, map, drop, slice_index}
use Rattle.std.specs.List.{list_all}
use Rattle.rtl_vcd_values.specs.Values as spec
use Rattle.rtl_vcd_values.proofs.line.are_digits.Given as goal

-- all are digits where those that are left are
abbrev pub invariant-loop-net : goal.invariant-loop-net
invariant-loop-net l =
    list_all spec.is_digit (map (slice_index l.values) l.nets)
    ≡ list_all spec.is_digit (map (slice_index l.values) (drop l.net-index l.nets))
