use Rattle.rtl_keeping.proofs.Adding.{Adding}
use Rattle.rtl_keeping.proofs.nets.Nets.add_all.Given as goal

-- the marked ones of the variables so far are added
abbrev pub invariant-loop-k : goal.invariant-loop-k
invariant-loop-k l = Adding l.process l.number l.marks l.process.variables.items l.initial.self l.k l.self
