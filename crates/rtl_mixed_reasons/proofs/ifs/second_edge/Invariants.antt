use Rattle.std.proofs.Common.{◌≡◌, drop}
use Rattle.rtl_mixed_reasons.specs.Reasons.{first_in, second_if}
use Rattle.rtl_mixed_reasons.proofs.ifs.second_edge.Given as goal

abbrev pub invariant-loop-statement : goal.invariant-loop-statement
invariant-loop-statement l = first_in (second_if l.wide l.process l.first l.found) (drop l.statement-index l.statements) ≡ first_in (second_if l.wide l.process l.first l.found) l.statements
