use Rattle.rtl_definition_examples.proofs.Listing as rows
use Rattle.rtl_definition_examples.proofs.listing_examples.lines_are_as_said.Goals as goal

pub returns-clause-faults : goal.returns-clause-faults
returns-clause-faults c = rows.loop_is_listed

pub returns-clause-levels : goal.returns-clause-levels
returns-clause-levels c = rows.level_is_listed

pub returns-clause-lines : goal.returns-clause-lines
returns-clause-lines c = rows.lines_are_as_said
