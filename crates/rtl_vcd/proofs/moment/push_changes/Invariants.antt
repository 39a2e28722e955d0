use Rattle.std.specs.Prelude.{◌≡◌, ◌||◌, ◌-◌, ◌≤◌, length, map, take}
use Rattle.rtl_vcd.specs.Pages.{Passes, IsOpen}
use Rattle.rtl_net.specs.Nets.{signal_view}
use Rattle.rtl_vcd.specs.Trace.{are_some}
use Rattle.rtl_vcd.specs.Blocks.{changes_from, continued}
use Rattle.rtl_vcd.proofs.moment.push_changes.Given as goal

-- the changes of the names before this one are printed, the last of them in the page
abbrev pub invariant-loop-next : goal.invariant-loop-next
invariant-loop-next g l =
    Passes (g.W.Sink.state l.initial.out) (g.W.Sink.state l.out) l.initial.page l.page
    (continued l.is_printed l.step.time (changes_from l.first (take l.next (map signal_view l.names)) l.step.old.now l.step.new.now))
    × (l.printed ≡ (l.is_printed || are_some (changes_from l.first (take l.next (map signal_view l.names)) l.step.old.now l.step.new.now)))
    × IsOpen l.printed l.page
    × (l.next ≤ length l.names)

abbrev pub decreases-loop-next : goal.decreases-loop-next
decreases-loop-next g l = length l.names - l.next
