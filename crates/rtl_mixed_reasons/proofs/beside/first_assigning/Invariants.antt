use Rattle.std.proofs.Common.{◌≡◌, drop}
use Rattle.rtl_body_facts.specs.Reading.{is_in}
use Rattle.rtl_mixed_reasons.specs.Reasons.{first_in, assigns_beside}
use Rattle.rtl_mixed_reasons.proofs.beside.first_assigning.Given as goal

abbrev pub invariant-loop-statement : goal.invariant-loop-statement
invariant-loop-statement l = first_in (assigns_beside l.process (λ n. is_in n l.edge) l.at) (drop l.statement-index l.statements) ≡ first_in (assigns_beside l.process (λ n. is_in n l.edge) l.at) l.statements
