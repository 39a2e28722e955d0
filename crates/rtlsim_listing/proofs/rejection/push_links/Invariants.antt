use Rattle.std.proofs.Common.{◌≡◌, ◌++◌, take}
use Rattle.std.specs.Prelude.{flat_map}
use Rattle.rtlsim_listing.specs.CheckText.{link_text}
use Rattle.rtlsim_listing.proofs.rejection.push_links.Given as goal

abbrev pub invariant-loop-number : goal.invariant-loop-number
invariant-loop-number l = l.line.items ≡ l.initial.line.items ++ flat_map (link_text l.net) (take l.number-index l.nets)
