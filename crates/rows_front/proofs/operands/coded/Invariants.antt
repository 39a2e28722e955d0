use Rattle.std.proofs.Common.{◌<◌}
use Rattle.std.specs.List.{All}
use Rattle.rows_front.proofs.operands.coded.Given as goal

-- what is written is below 9, and so is what stands there from the start
abbrev pub invariant-loop-at : goal.invariant-loop-at
invariant-loop-at l = All (λ code. code < 9) l.codes
