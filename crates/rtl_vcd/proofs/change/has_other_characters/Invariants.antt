use Rattle.std.specs.Prelude.{◌≡◌, map, take, slice_index}
use Rattle.rtl_vcd_values.specs.Values.{character}
use Rattle.rtl_vcd.proofs.change.has_other_characters.Given as goal

-- the nets before this one print as before
abbrev pub invariant-loop-net : goal.invariant-loop-net
invariant-loop-net l =
    map character (map (slice_index l.old) (take l.net-index l.nets)) ≡ map character (map (slice_index l.new) (take l.net-index l.nets))
