use Rattle.std.proofs.Common.{◌≡◌, ◌++◌, take, drop}
use Rattle.rtlsim_listing.specs.DotText.{without_index}
use Rattle.rtlsim_listing.proofs.graph.without_index.Given as goal

-- no index begins before this place
abbrev pub invariant-loop-at : goal.invariant-loop-at
invariant-loop-at l = without_index l.name ≡ take l.at l.name ++ without_index (drop l.at l.name)
