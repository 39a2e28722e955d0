use Rattle.std.proofs.Common.{◌≡◌, length, map, take}
use Rattle.std.specs.Prelude.{◌==◌, not, filter}
use Rattle.rtlsim.proofs.first_line.filled.Given as goal

-- the words among the pieces so far
abbrev pub invariant-loop-piece : goal.invariant-loop-piece
invariant-loop-piece l = map (λ word. word.now) l.words.items ≡ filter (λ piece. not (length piece == 0)) (map (λ piece. piece.now) (take l.piece-index l.pieces))
