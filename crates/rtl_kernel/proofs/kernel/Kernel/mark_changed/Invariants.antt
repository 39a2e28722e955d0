use Rattle.rtl_kernel.proofs.Touching.{AreTouched}
use Rattle.rtl_kernel.proofs.kernel.Kernel.mark_changed.Given as goal

abbrev pub invariant-loop-group : goal.invariant-loop-group
invariant-loop-group g l = AreTouched l.groups l.changed l.group-index l.initial.touched l.touched
