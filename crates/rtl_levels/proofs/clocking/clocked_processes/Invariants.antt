use Rattle.std.proofs.Common.{◌≡◌, map, take}
use Rattle.rtl_levels.specs.Scheduled.{is_clocked_kind}
use Rattle.rtl_levels.proofs.clocking.clocked_processes.Given as goal

abbrev pub invariant-loop-kind : goal.invariant-loop-kind
invariant-loop-kind l = l.clocked.items ≡ map is_clocked_kind (take l.kind-index l.kinds)
