use Rattle.std.specs.Prelude.{◌≡◌, ◌≤◌, [], length, map, take, drop}
use Rattle.rtl_net.specs.Nets.{signal_view}
use Rattle.rtl_vcd.specs.Pages.{Passes, IsOpen}
use Rattle.rtl_vcd.specs.Trace.{stamped, are_some}
use Rattle.rtl_vcd.specs.Blocks.{AreBlocks, changes_from}
use Rattle.rtl_vcd.proofs.Listed.{KeepFrom}
use Rattle.rtl_vcd.proofs.moment.push_moment.Given as goal

-- the names before the next one are printed, the last of them in the page, and those from there on stand in the blocks that are left
abbrev pub invariant-loop-number : goal.invariant-loop-number
invariant-loop-number g l =
    Passes (g.W.Sink.state l.initial.out) (g.W.Sink.state l.out) [] l.page (stamped l.step.time (changes_from 0 (take l.next (map signal_view l.shown.signals.now)) l.step.old.now l.step.new.now))
    × (l.is_printed ≡ are_some (changes_from 0 (take l.next (map signal_view l.shown.signals.now)) l.step.old.now l.step.new.now))
    × (l.next ≤ length (map signal_view l.shown.signals.now))
    × AreBlocks (length l.shown.net.now.types) (drop l.number l.blocks) (drop l.next (map signal_view l.shown.signals.now))
    × IsOpen l.is_printed l.page
    × KeepFrom l.marks l.step.old.now l.step.new.now l.number (drop l.number l.blocks) (drop l.next (map signal_view l.shown.signals.now))
