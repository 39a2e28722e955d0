use Rattle.std.proofs.Common.{◌≡◌, ◌+◌, ◌≤◌, length}
use Rattle.vhdl_lexer.specs.Extents as spec
use Rattle.vhdl_lexer.specs.declared.token.TokenKind.TheVariants as k
use Rattle.vhdl_lexer.proofs.extent.end_of.Given as goal

-- the tokens that are left decide
abbrev pub invariant-loop-left : goal.invariant-loop-left
invariant-loop-left l =
    (spec.end_behind l.opened l.last l.left ≡ spec.end_behind 0 k.Semicolon l.tokens) × (l.opened + length l.left ≤ length l.tokens)

abbrev pub decreases-loop-left : goal.decreases-loop-left
decreases-loop-left l = length l.left
