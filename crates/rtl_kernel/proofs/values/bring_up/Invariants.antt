use Rattle.std.proofs.Common.{◌≡◌, length}
use Rattle.rtl_kernel.proofs.Events.{AreBehind}
use Rattle.rtl_kernel.proofs.values.bring_up.Given as goal

abbrev pub invariant-loop-group : goal.invariant-loop-group
invariant-loop-group l = record {
  as_many : length l.before ≡ length l.initial.before;
  later : AreBehind l.groups l.changed l.before l.current l.group-index;
}
