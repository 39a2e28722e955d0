use Rattle.rtl_looks.proofs.Elements.{JoinsSome}
use Rattle.rtl_looks.proofs.hubs.Hubs.join_all.Given as goal

abbrev pub invariant-loop-place : goal.invariant-loop-place
invariant-loop-place l = JoinsSome l.initial.self.hubs.items l.self.hubs.items l.looks l.place l.all
