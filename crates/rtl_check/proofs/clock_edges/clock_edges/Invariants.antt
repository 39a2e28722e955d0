use Rattle.std.proofs.Common.{◌≡◌, take}
use Rattle.rtl_check.specs.ClockEdges.{nets_by, pairs_of}
use Rattle.rtl_check.proofs.clock_edges.clock_edges.Given as goal

abbrev pub invariant-loop-clock : goal.invariant-loop-clock
invariant-loop-clock l = l.pairs.items ≡ pairs_of (nets_by l.nets) (take l.clock-index l.clocks)
