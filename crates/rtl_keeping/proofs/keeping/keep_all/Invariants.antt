use Rattle.rtl_keeping.proofs.Walking.{Walk}
use Rattle.rtl_keeping.proofs.keeping.keep_all.Given as goal

-- the processes so far are kept
abbrev pub invariant-loop-number : goal.invariant-loop-number
invariant-loop-number l = Walk l.initial.processes l.initial.nets l.number l.processes l.nets
