use Rattle.std.proofs.Common.{◌≡◌, length}
use Rattle.rtl_kernel.proofs.wakes.number_nets.Given as goal

abbrev pub invariant-loop-net : goal.invariant-loop-net
invariant-loop-net l = length l.declared.items ≡ length l.initial.declared.items
