use Rattle.std.specs.Prelude.{◌-◌, ◌≤◌, length, map, take}
use Rattle.rtl_net.specs.Nets.{signal_view}
use Rattle.rtl_vcd.specs.Blocks.{AreBlocks}
use Rattle.rtl_vcd.proofs.blocks.blocks_of.Given as goal

-- the names before this one stand in the blocks so far
abbrev pub invariant-loop-next : goal.invariant-loop-next
invariant-loop-next l = AreBlocks (length l.shown.net.now.types) l.blocks.items (take l.next (map signal_view l.shown.signals.now)) × (l.next ≤ length l.shown.signals.now)

abbrev pub decreases-loop-next : goal.decreases-loop-next
decreases-loop-next l = length l.shown.signals.now - l.next
