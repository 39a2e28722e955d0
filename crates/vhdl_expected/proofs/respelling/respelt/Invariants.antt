use Rattle.std.proofs.Common.{◌≤◌, length, Option}
use Rattle.vhdl_parser_rules.specs.Expected.{Said}
use Rattle.vhdl_expected.specs.Reading.{reading_of}
use Rattle.vhdl_expected.specs.Told.{Finds, respelt, respelt_back}
use Rattle.vhdl_expected.proofs.respelling.respelt.Given as goal

-- what is found at the places that are left is found at all
abbrev pub invariant-loop-places : goal.invariant-loop-places
invariant-loop-places l = record {
  within : l.place ≤ length l.reading.tokens.now;
  so : (said : Option Said) → Finds (reading_of l.reading) (respelt_back (reading_of l.reading) l.places l.place) said
      → Finds (reading_of l.reading) (respelt (reading_of l.reading)) said;
}

abbrev pub decreases-loop-places : goal.decreases-loop-places
decreases-loop-places l = l.places
