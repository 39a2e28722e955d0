use Rattle.std.proofs.Common.{◌≡◌, drop}
use Rattle.rtl_mixed_reasons.specs.Reasons.{first_edge}
use Rattle.rtl_mixed_reasons.proofs.ifs.first_edge.Given as goal

abbrev pub invariant-loop-number : goal.invariant-loop-number
invariant-loop-number l = first_edge l.number (drop l.number l.statements) ≡ first_edge 0 l.statements
