use Rattle.std.proofs.Common.{◌≡◌, drop}
use Rattle.rtl_mixed_reasons.specs.Reasons.{first_in, told_alone}
use Rattle.rtl_mixed_reasons.proofs.body.first_alone.Given as goal

abbrev pub invariant-loop-statement : goal.invariant-loop-statement
invariant-loop-statement l = first_in (told_alone l.wide l.sought) (drop l.statement-index l.statements) ≡ first_in (told_alone l.wide l.sought) l.statements
