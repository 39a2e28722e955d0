use Rattle.std.proofs.Common.{◌≡◌, map, length}
use Rattle.vhdl_lexer.specs.Words.{kind_among}
use Rattle.vhdl_lexer.proofs.word.kind_among.Given as goal

abbrev pub invariant-loop-words : goal.invariant-loop-words
invariant-loop-words l = kind_among (map (λ w. (w.0.now, w.1)) l.words) l.text ≡ kind_among (map (λ w. (w.0.now, w.1)) l.initial.words) l.text

abbrev pub decreases-loop-words : goal.decreases-loop-words
decreases-loop-words l = length l.words
