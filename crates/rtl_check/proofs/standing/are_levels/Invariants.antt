use Rattle.std.proofs.Common.{◌<◌, ℕ}
use Rattle.rtl_net.specs.Core.{core}
use Rattle.rtl_check.specs.Standing as s
use Rattle.rtl_check.proofs.standing.are_levels.Given as goal

abbrev pub invariant-loop-process : goal.invariant-loop-process
invariant-loop-process l = (q : ℕ) → q < l.process → s.Stands (core l.net) l.levels l.from q
