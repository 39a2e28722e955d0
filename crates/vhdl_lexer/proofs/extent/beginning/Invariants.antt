use Rattle.std.proofs.Common.{◌≡◌, ◌+◌, ◌≤◌, length}
use Rattle.vhdl_lexer.specs.Extents as spec
use Rattle.vhdl_lexer.specs.declared.token.TokenKind.TheVariants as k
use Rattle.vhdl_lexer.proofs.extent.beginning.Given as goal

-- the tokens that are left decide
abbrev pub invariant-loop-left : goal.invariant-loop-left
invariant-loop-left l =
    (spec.beginning l.at l.depth l.last l.here l.left ≡ spec.beginning l.at 0 k.Semicolon l.tokens l.tokens) × (l.depth + length l.left ≤ length l.tokens)

abbrev pub decreases-loop-left : goal.decreases-loop-left
decreases-loop-left l = length l.left
