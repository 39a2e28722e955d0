use Rattle.std.proofs.Common.{◌≡◌, ◌+◌, drop}
use Rattle.rtl_kept_bodies.specs.Steps.{kept_count}
use Rattle.rtl_kept_bodies.proofs.kept.count_kept.Given as goal

-- those so far, and those that are left
abbrev pub invariant-loop-number : goal.invariant-loop-number
invariant-loop-number l = l.many + kept_count (drop l.number l.flags) (drop l.number l.variables) ≡ kept_count l.flags l.variables
