use Rattle.std.proofs.Common.{take}
use Rattle.rtl_calm_nets.specs.Reaching.{AreSettled}
use Rattle.rtl_calm_nets.proofs.search.settle.Given as goal

abbrev pub invariant-loop-place : goal.invariant-loop-place
invariant-loop-place l = AreSettled (take l.place-index l.path) l.mark l.initial.marks l.marks
