use Rattle.std.proofs.Common.{◌≡◌, ℕ, ◌≤◌, ◌<◌, nat_le, cond, true, false, Option, Some, None, refl, ap, ◌∙◌, arith}
use Rattle.std.proofs.lemmas.Bool.Decides.{nat_tests}
use Rattle.std.specs.Prelude.{IfSome, IfNone}
use Rattle.rtlsim_findings.specs.Ranges.{number_in}
use Rattle.rtlsim_findings.proofs.ranges.index_of.Goals as goal

read : (answer : Option ℕ) (number most : ℕ) → IfSome answer (λ n. n ≡ number) → IfSome answer (λ n. n ≤ most) → IfNone answer (most < number)
    → answer ≡ cond (nat_le number most) (Some number) None
read (Some n) number most is fits above = let within : nat_le number most ≡ true = grind (arith, nat_tests, is, fits) in rw (within, is) refl
read None number most is fits above = let past : nat_le number most ≡ false = grind (arith, nat_tests, above) in rw past refl

pub returns-clause-number : goal.returns-clause-number
returns-clause-number c =
    read _ _ _ c.integer_value.ensures.some c.integer_value.ensures.fits c.integer_value.ensures.none ∙ ap number_in c.index_part.ensures.part
