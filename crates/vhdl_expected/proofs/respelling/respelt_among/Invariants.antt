use Rattle.std.proofs.Common.{length, map, flat_map, Option}
use Rattle.vhdl_parser_rules.specs.Expected.{Said}
use Rattle.vhdl_expected.specs.Reading.{reading_of}
use Rattle.vhdl_expected.specs.Told.{Finds, respelt_in, words_of}
use Rattle.vhdl_expected.proofs.respelling.respelt_among.Given as goal

-- what is found in the tables that are left is found in all
abbrev pub invariant-loop-left : goal.invariant-loop-left
invariant-loop-left l = (said : Option Said) → Finds (reading_of l.reading) (flat_map (respelt_in (reading_of l.reading) l.place l.token) (map words_of l.left)) said
    → Finds (reading_of l.reading) (flat_map (respelt_in (reading_of l.reading) l.place l.token) (map words_of l.tables)) said

abbrev pub decreases-loop-left : goal.decreases-loop-left
decreases-loop-left l = length l.left
