use Rattle.std.proofs.Common.{◌≡◌, map, length}
use Rattle.vhdl_slips.specs.Forms.{form_in, said_of}
use Rattle.vhdl_slips.proofs.unread.form_in.Given as goal

-- the rows that are left decide
abbrev pub invariant-loop-words : goal.invariant-loop-words
invariant-loop-words l =
    form_in (map (λ w. (w.0.now, w.1, said_of w.2)) l.words) l.context l.word
    ≡ form_in (map (λ w. (w.0.now, w.1, said_of w.2)) l.initial.words) l.context l.word

abbrev pub decreases-loop-words : goal.decreases-loop-words
decreases-loop-words l = length l.words
