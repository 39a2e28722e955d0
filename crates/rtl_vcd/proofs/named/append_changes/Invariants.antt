use Rattle.std.specs.Prelude.{◌≡◌, ◌+◌, ◌≤◌, ◌++◌, length, map, take}
use Rattle.rtl_net.specs.Nets.{signal_view}
use Rattle.rtl_vcd.specs.Blocks.{changes_from}
use Rattle.rtl_vcd.proofs.named.append_changes.Given as goal

-- the changes of the names before this one stand on the page, which has room for another line
abbrev pub invariant-loop-place : goal.invariant-loop-place
invariant-loop-place l =
    (l.page ≡ l.initial.page ++ changes_from l.first (take l.place (map signal_view l.names)) l.step.old.now l.step.new.now)
    × (length l.page + 77 ≤ 1024)
