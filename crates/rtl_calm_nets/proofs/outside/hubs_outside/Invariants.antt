use Rattle.rtl_calm_nets.proofs.Hubs.{Marks}
use Rattle.rtl_calm_nets.proofs.outside.hubs_outside.Given as goal

abbrev pub invariant-loop-hub : goal.invariant-loop-hub
invariant-loop-hub l = Marks l.outside l.hubs l.hub-index l.marks.items
