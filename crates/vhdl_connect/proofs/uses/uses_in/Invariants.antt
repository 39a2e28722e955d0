use Rattle.std.proofs.Common.{◌≡◌, take, length}
use Rattle.std.specs.Prelude.{flat_map}
use Rattle.vhdl_connect.specs.Uses.{AreUses}
use Rattle.vhdl_connect.proofs.Marking.{driven_by, read_by}
use Rattle.vhdl_connect.proofs.uses.uses_in.Given as goal

-- the parts so far are marked
abbrev pub invariant-loop-part : goal.invariant-loop-part
invariant-loop-part l =
    (length l.uses.items ≡ l.elements)
    × AreUses (flat_map driven_by (take l.part-index l.parts)) (flat_map read_by (take l.part-index l.parts)) l.uses.items
