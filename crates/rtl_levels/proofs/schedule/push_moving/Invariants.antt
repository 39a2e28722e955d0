use Rattle.std.proofs.Common.{◌≡◌, ◌++◌, map, take}
use Rattle.std.specs.List.{filter}
use Rattle.rtl_levels.specs.Scheduled.{beside_level, kind_moves}
use Rattle.rtl_levels.proofs.schedule.push_moving.Given as goal

abbrev pub invariant-loop-net : goal.invariant-loop-net
invariant-loop-net l = l.moving.items ≡ l.initial.moving.items ++ map (beside_level l.nets) (filter (kind_moves l.kind) (take l.net-index l.wakes))
