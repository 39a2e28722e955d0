use Rattle.std.proofs.Common.{◌≡◌, false, length}
use Rattle.vhdl_lexer.specs.declared.token.TokenKind.TheVariants as k
use Rattle.vhdl_parser_further.specs.Statements as spec
use Rattle.vhdl_parser_further.proofs.Walks.{IsBounded}
use Rattle.vhdl_parser_further.proofs.place.place_of.Given as goal

-- the tokens that are left decide
abbrev pub invariant-loop-left : goal.invariant-loop-left
invariant-loop-left l =
    (spec.place_from l.at l.place l.left ≡ spec.place_from l.at (spec.first false 0 k.Semicolon) l.tokens) × IsBounded (length l.tokens) l.place (length l.left)

abbrev pub decreases-loop-left : goal.decreases-loop-left
decreases-loop-left l = length l.left
