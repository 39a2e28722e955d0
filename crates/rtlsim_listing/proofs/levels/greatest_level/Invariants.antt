use Rattle.std.specs.Prelude.{◌≡◌, take}
use Rattle.rtlsim_listing.specs.CheckText.{greatest_level}
use Rattle.rtlsim_listing.proofs.levels.greatest_level.Given as goal

-- the greatest of the levels before this one
abbrev pub invariant-loop-level : goal.invariant-loop-level
invariant-loop-level l = l.greatest ≡ greatest_level (take l.level-index l.levels)
