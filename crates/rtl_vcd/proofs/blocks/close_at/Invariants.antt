use Rattle.std.specs.Prelude.{◌≡◌, ◌+◌, take, drop, length, map}
use Rattle.rtl_net.specs.Nets.{signal_view}
use Rattle.rtl_vcd.specs.Blocks.{IsBlockOf}
use Rattle.rtl_vcd.proofs.blocks.close_at.Given as goal

-- the block has the names before this one
abbrev pub invariant-loop-number : goal.invariant-loop-number
invariant-loop-number l =
    (l.first + l.block.names ≡ l.number)
    × IsBlockOf (length l.shown.net.now.types) l.block (take l.block.names (drop l.first (map signal_view l.signals)))
