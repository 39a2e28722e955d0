use Rattle.std.proofs.Common.{◌≡◌, ◌≤◌, ◌+◌, length}
use Rattle.rtl_stim_lines.specs.Lines.{lines_of}
use Rattle.rtlsim_refusals.specs.Races.{line_among, setting_line}
use Rattle.rtlsim_refusals.proofs.race.setting_line.Given as goal

-- the lines before those that are left don't set it
abbrev pub invariant-loop-end : goal.invariant-loop-end
invariant-loop-end l = (setting_line l.port l.asked l.text ≡ line_among l.port l.asked l.number (lines_of l.left)) × (l.number + length l.left ≤ length l.text + 1)

abbrev pub decreases-loop-end : goal.decreases-loop-end
decreases-loop-end l = length l.left
