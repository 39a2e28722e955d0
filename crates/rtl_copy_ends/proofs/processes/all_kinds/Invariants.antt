use Rattle.std.proofs.Common.{◌≡◌, map, take}
use Rattle.rtl_copy_ends.specs.Ends.{kind_in}
use Rattle.rtl_copy_ends.proofs.processes.all_kinds.Given as goal

abbrev pub invariant-loop-process : goal.invariant-loop-process
invariant-loop-process l = l.kinds.items ≡ map (kind_in l.net) (take l.process-index l.net.processes)
