use Rattle.std.proofs.Common.{◌≡◌, ◌+◌, ◌≤◌, length}
use Rattle.vhdl_lexer.specs.declared.token.TokenKind.TheVariants as k
use Rattle.vhdl_parser_further.specs.Statements as spec
use Rattle.vhdl_parser_further.proofs.statement.behind_statement.Given as goal

-- the tokens that are left decide
abbrev pub invariant-loop-left : goal.invariant-loop-left
invariant-loop-left l =
    (spec.behind_statement l.sequel l.opened l.parens l.last l.left ≡ spec.behind_statement l.sequel 0 0 k.Semicolon l.tokens)
    × (l.opened + length l.left ≤ length l.tokens) × (l.parens + length l.left ≤ length l.tokens)

abbrev pub decreases-loop-left : goal.decreases-loop-left
decreases-loop-left l = length l.left
