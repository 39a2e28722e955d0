use Rattle.std.proofs.Common.{◌≡◌, take, drop}
use Rattle.vhdl_elab.proofs.place.InstancePlace.nets_from.Given as goal

abbrev pub invariant-loop-k : goal.invariant-loop-k
invariant-loop-k l = l.found.items ≡ take l.k (drop l.first l.self.nets.now)
