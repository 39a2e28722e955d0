use Rattle.std.proofs.Common.{◌≡◌, drop}
use Rattle.rtl_net.specs.Core.{core}
use Rattle.rtl_check.specs.Standing as s
use Rattle.rtl_check.proofs.standing.highest_of.Given as goal

abbrev pub invariant-loop-wake : goal.invariant-loop-wake
invariant-loop-wake l = s.with_nets (core l.net) l.levels l.highest (drop l.wake-index l.wakes) ≡ s.with_nets (core l.net) l.levels s.no_highest l.wakes
