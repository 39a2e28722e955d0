use Rattle.std.proofs.Common.{◌≡◌, ◌++◌, map, take}
use Rattle.rtl_remarks.specs.Remarks.{at_process}
use Rattle.rtl_remarks.proofs.processes.push_each.Given as goal

abbrev pub invariant-loop-net : goal.invariant-loop-net
invariant-loop-net l = l.remarks.items ≡ l.initial.remarks.items ++ map (at_process l.kind l.process) (take l.net-index l.nets)
