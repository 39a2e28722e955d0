use Rattle.std.proofs.Common.{◌≡◌, drop}
use Rattle.rtlsim.specs.Halves.{mark_of, mark_from}
use Rattle.rtlsim.proofs.halves.mark_at.Given as goal

-- the line is the first one of what is left
abbrev pub invariant-loop-at : goal.invariant-loop-at
invariant-loop-at l = mark_of l.all ≡ mark_from l.at l.starts (drop l.at l.all)
