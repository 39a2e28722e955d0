use Rattle.std.proofs.Common.{take}
use Rattle.rtl_check.specs.Rules.{Pushes}
use Rattle.rtl_check.proofs.rules.push_faults.Given as goal

abbrev pub invariant-loop-net : goal.invariant-loop-net
invariant-loop-net l = Pushes l.rule l.process (take l.net-index l.nets) l.initial.faults.items l.faults.items
