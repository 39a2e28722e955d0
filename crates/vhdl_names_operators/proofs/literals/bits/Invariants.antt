use Rattle.std.proofs.Common.{◌≡◌, ◌++◌, drop}
use Rattle.std.specs.Prelude.{◌==◌, not, filter, flat_map}
use Rattle.vhdl_lexer.specs.Bytes.{underscore}
use Rattle.vhdl_names_rules.specs.Literals as rules
use Rattle.vhdl_names_operators.specs.Steps.{class_of}
use Rattle.vhdl_names_operators.proofs.literals.bits.Given as goal

-- what is done, and then the rest, is the whole
abbrev pub invariant-loop-digit : goal.invariant-loop-digit
invariant-loop-digit l =
    flat_map (λ b. rules.bits_of (class_of l.base) (rules.digit_value b)) (filter (λ b. not (b == underscore)) l.digits)
    ≡ l.values.items ++ flat_map (λ b. rules.bits_of (class_of l.base) (rules.digit_value b)) (filter (λ b. not (b == underscore)) (drop l.digit-index l.digits))
