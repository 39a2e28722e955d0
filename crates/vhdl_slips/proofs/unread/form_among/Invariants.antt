use Rattle.std.proofs.Common.{◌≡◌, map, length}
use Rattle.vhdl_slips.specs.Forms.{form_among, said_of, words_of}
use Rattle.vhdl_slips.proofs.unread.form_among.Given as goal

-- the tables that are left decide
abbrev pub invariant-loop-tables : goal.invariant-loop-tables
invariant-loop-tables l =
    form_among (map words_of l.tables) l.context l.word (said_of l.fallback)
    ≡ form_among (map words_of l.initial.tables) l.context l.word (said_of l.fallback)

abbrev pub decreases-loop-tables : goal.decreases-loop-tables
decreases-loop-tables l = length l.tables
