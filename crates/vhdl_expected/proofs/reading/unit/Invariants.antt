use Rattle.std.proofs.Common.{◌≡◌, length}
use Rattle.vhdl_expected.specs.Reading as spec
use Rattle.vhdl_lexer.specs.declared.token.TokenKind.TheVariants as k
use Rattle.vhdl_expected.proofs.reading.unit.Given as goal

-- the tokens that are left decide
abbrev pub invariant-loop-left : goal.invariant-loop-left
invariant-loop-left l = spec.unit_from l.last l.unit l.left ≡ spec.unit_from k.Semicolon l.tokens l.tokens

abbrev pub decreases-loop-left : goal.decreases-loop-left
decreases-loop-left l = length l.left
