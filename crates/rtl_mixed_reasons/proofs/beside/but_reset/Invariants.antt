use Rattle.std.proofs.Common.{◌≡◌, ◌++◌, take, drop}
use Rattle.rtl_mixed_reasons.specs.Reasons.{but_reset}
use Rattle.rtl_mixed_reasons.proofs.beside.but_reset.Given as goal

abbrev pub invariant-loop-number : goal.invariant-loop-number
invariant-loop-number l = take l.number l.statements ++ but_reset (drop l.number l.statements) ≡ but_reset l.statements
