use Rattle.std.proofs.Common.{◌≡◌, map, take}
use Rattle.rtl_seen_nets.proofs.Tables.{by-places, of-process}
use Rattle.rtl_seen_nets.proofs.seen.seen_in_all.Given as goal

abbrev pub invariant-loop-process : goal.invariant-loop-process
invariant-loop-process l = map by-places l.seen.items ≡ map (of-process l.wanted) (take l.process-index l.processes)
