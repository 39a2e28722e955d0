use Rattle.std.proofs.Common.{◌≡◌, map, take}
use Rattle.rtl_seen_nets.specs.Behind.{lowest_seen}
use Rattle.rtl_seen_nets.proofs.behind.lowest_of_looks.Given as goal

abbrev pub invariant-loop-look : goal.invariant-loop-look
invariant-loop-look l = l.seen.items ≡ map (lowest_seen l.wanted l.found) (take l.look-index l.looks)
