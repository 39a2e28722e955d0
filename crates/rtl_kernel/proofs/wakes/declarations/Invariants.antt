use Rattle.std.proofs.Common.{◌≡◌, length}
use Rattle.rtl_kernel.proofs.wakes.declarations.Given as goal

abbrev pub invariant-loop-later : goal.invariant-loop-later
invariant-loop-later l = length l.declared.items ≡ l.nets
