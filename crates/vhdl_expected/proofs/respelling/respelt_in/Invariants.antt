use Rattle.std.proofs.Common.{length, map, flat_map, Option}
use Rattle.vhdl_parser_rules.specs.Expected.{Said}
use Rattle.vhdl_expected.specs.Reading.{reading_of}
use Rattle.vhdl_expected.specs.Told.{Finds, respelt_as, word_of}
use Rattle.vhdl_expected.proofs.respelling.respelt_in.Given as goal

-- what is found among the words that are left is found among all
abbrev pub invariant-loop-left : goal.invariant-loop-left
invariant-loop-left l = (said : Option Said) → Finds (reading_of l.reading) (flat_map (respelt_as (reading_of l.reading) l.place l.token) (map word_of l.left)) said
    → Finds (reading_of l.reading) (flat_map (respelt_as (reading_of l.reading) l.place l.token) (map word_of l.words)) said

abbrev pub decreases-loop-left : goal.decreases-loop-left
decreases-loop-left l = length l.left
