use Rattle.std.specs.Prelude.{◌≡◌, ◌-◌, ◌≤◌, take, length}
use Rattle.rtl_net_groups.proofs.comparing.alike_lanes.Given as goal

-- the values before this place are alike
abbrev pub invariant-loop-at : goal.invariant-loop-at
invariant-loop-at g l = (take l.at l.old ≡ take l.at l.new) × (l.at ≤ length l.old)

abbrev pub decreases-loop-at : goal.decreases-loop-at
decreases-loop-at g l = length l.old - l.at
