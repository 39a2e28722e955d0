use Rattle.vhdl_elab.proofs.Settling.{AreUnwoken}
use Rattle.vhdl_elab.proofs.settled.settle.Given as goal

-- the processes so far are not woken
abbrev pub invariant-loop-i : goal.invariant-loop-i
invariant-loop-i l = AreUnwoken l.i l.initial.processes l.processes
