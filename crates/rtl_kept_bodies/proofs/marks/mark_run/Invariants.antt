use Rattle.rtl_kept_bodies.specs.Steps.{Marked}
use Rattle.rtl_kept_bodies.proofs.Marking.{in_run}
use Rattle.rtl_kept_bodies.proofs.marks.mark_run.Given as goal

abbrev pub invariant-loop-k : goal.invariant-loop-k
invariant-loop-k l = Marked (in_run l.first l.k) l.initial.marks l.marks
