use Rattle.std.proofs.Common.{◌≡◌, ◌<◌, ℕ, [], get_or, length}
use Rattle.rtl_net.specs.Core.{core}
use Rattle.rtl_levels.specs.Scheduled.{AreMoving}
use Rattle.rtl_levels.proofs.schedule.moving_nets.Given as goal

abbrev pub invariant-loop-number : goal.invariant-loop-number
invariant-loop-number l = record {
  so_many : length l.lists ≡ l.number;
  so_far : (p : ℕ) → p < l.number → AreMoving (core l.net) l.nets p (get_or l.lists p []);
}
