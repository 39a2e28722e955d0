use Rattle.std.proofs.Common.{◌≡◌, map, length}
use Rattle.vhdl_hints.specs.Hints.{meant_among}
use Rattle.vhdl_hints.proofs.word.meant_among.Given as goal

abbrev pub invariant-loop-words : goal.invariant-loop-words
invariant-loop-words l = meant_among (map (λ w. w.now) l.words) l.word ≡ meant_among (map (λ w. w.now) l.initial.words) l.word

abbrev pub decreases-loop-words : goal.decreases-loop-words
decreases-loop-words l = length l.words
