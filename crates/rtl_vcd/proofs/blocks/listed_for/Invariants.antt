use Rattle.std.specs.Prelude.{◌≡◌, ◌++◌, ◌≤◌, length, map, drop}
use Rattle.rtl_net.specs.Nets.{signal_view}
use Rattle.rtl_vcd.specs.Blocks.{AreBlocks}
use Rattle.rtl_vcd.proofs.Listed.{nets_by}
use Rattle.rtl_vcd.proofs.blocks.listed_for.Given as goal

-- the nets of the blocks so far, and those of the blocks that are left
abbrev pub invariant-loop-block : goal.invariant-loop-block
invariant-loop-block l = record {
  within : l.next ≤ length (map signal_view l.shown.signals.now);
  left : AreBlocks (length l.shown.net.now.types) (drop l.block-index l.blocks) (drop l.next (map signal_view l.shown.signals.now));
  each : l.nets_of ++ nets_by (drop l.block-index l.blocks) (drop l.next (map signal_view l.shown.signals.now)) ≡ nets_by l.blocks (map signal_view l.shown.signals.now);
}
