use Rattle.std.proofs.Common.{length}
use Rattle.rtl_net.specs.Core.{core}
use Rattle.rtl_calm_nets.proofs.Judging.{Marked}
use Rattle.rtl_calm_nets.proofs.outside.clock_marks.Given as goal

abbrev pub invariant-loop-kind : goal.invariant-loop-kind
invariant-loop-kind l = Marked (core l.net) (length l.net.types) l.kind-index l.clocks.items
