use Rattle.std.specs.Prelude.{◌≡◌, take}
use Rattle.rtl_net_groups.proofs.comparing.is_one_other.Given as goal

-- the values before this place are alike
abbrev pub invariant-loop-at : goal.invariant-loop-at
invariant-loop-at l = take l.at l.old ≡ take l.at l.new
