use Rattle.rtl_seen_nets.proofs.Hubs.{FoundSoFar}
use Rattle.rtl_seen_nets.proofs.behind.lowest_of_hubs.Given as goal

abbrev pub invariant-loop-hub : goal.invariant-loop-hub
invariant-loop-hub l = FoundSoFar l.wanted l.hubs l.hub-index l.found.items
