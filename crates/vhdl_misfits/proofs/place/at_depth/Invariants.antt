use Rattle.std.proofs.Common.{◌≡◌, ◌+◌, ◌≤◌, length}
use Rattle.vhdl_misfits.specs.Places as spec
use Rattle.vhdl_misfits.proofs.place.at_depth.Given as goal
use Rattle.vhdl_lexer.specs.declared.token.TokenKind.TheVariants as k

-- the tokens that are left decide
abbrev pub invariant-loop-left : goal.invariant-loop-left
invariant-loop-left l =
    (spec.from_depth l.depth l.stops l.opened l.last l.left ≡ spec.from_depth l.depth l.stops 0 k.Semicolon l.tokens)
    × (l.opened + length l.left ≤ length l.tokens)

abbrev pub decreases-loop-left : goal.decreases-loop-left
decreases-loop-left l = length l.left
