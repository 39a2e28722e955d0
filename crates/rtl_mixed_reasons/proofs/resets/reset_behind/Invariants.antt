use Rattle.std.proofs.Common.{◌≡◌, drop}
use Rattle.rtl_body_facts.specs.Reading.{is_in}
use Rattle.rtl_mixed_reasons.specs.Reasons.{first_in, told_behind}
use Rattle.rtl_mixed_reasons.proofs.resets.reset_behind.Given as goal

abbrev pub invariant-loop-statement : goal.invariant-loop-statement
invariant-loop-statement l = first_in (told_behind l.wide l.process (λ n. is_in n l.edge)) (drop l.statement-index l.statements) ≡ first_in (told_behind l.wide l.process (λ n. is_in n l.edge)) l.statements
