use Rattle.std.proofs.Common.{take}
use Rattle.rtl_net_groups.specs.Cuts.{AreCutsOf}
use Rattle.rtl_net_groups.proofs.cuts.Cuts.new.Given as goal

abbrev pub invariant-loop-process : goal.invariant-loop-process
invariant-loop-process l = AreCutsOf l.of_net (take l.process l.targets) (record { cuts = l.cuts; numbers = l.numbers })
