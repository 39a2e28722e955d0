use Rattle.std.proofs.Common.{◌≡◌, drop}
use Rattle.rtl_net.specs.Bodies.{statements_of}
use Rattle.rtl_mixed_reasons.specs.Reasons.{computes}
use Rattle.rtl_mixed_reasons.proofs.resets.computes.Given as goal

abbrev pub invariant-loop-statement : goal.invariant-loop-statement
invariant-loop-statement l = computes l.wide l.at (statements_of (drop l.statement-index l.statements)) ≡ computes l.wide l.at (statements_of l.statements)
