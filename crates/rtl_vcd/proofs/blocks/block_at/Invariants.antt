use Rattle.std.specs.Prelude.{◌≡◌, ◌+◌, ◌-◌, ◌≤◌, ◌<◌, take, drop, length, map}
use Rattle.rtl_net.specs.Nets.{signal_view}
use Rattle.rtl_vcd.specs.Blocks.{IsBlockOf}
use Rattle.rtl_vcd.proofs.blocks.block_at.Given as goal

-- the block has the names before the next one
abbrev pub invariant-loop-next : goal.invariant-loop-next
invariant-loop-next l =
    (l.first + l.block.names ≡ l.next)
    × (l.next ≤ length (map signal_view l.shown.signals.now))
    × (0 < l.block.names)
    × IsBlockOf (length l.shown.net.now.types) l.block (take l.block.names (drop l.first (map signal_view l.shown.signals.now)))

abbrev pub decreases-loop-next : goal.decreases-loop-next
decreases-loop-next l = length (map signal_view l.shown.signals.now) - l.next
