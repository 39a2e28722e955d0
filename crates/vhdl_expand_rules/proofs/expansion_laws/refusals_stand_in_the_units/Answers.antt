use Rattle.vhdl_expand_rules.proofs.laws.told.Designs.{bodies_are_told, processes_are_told, designs_are_told}
use Rattle.vhdl_expand_rules.proofs.expansion_laws.refusals_stand_in_the_units.Goals as goal

pub returns-clause-bodies : goal.returns-clause-bodies
returns-clause-bodies c = bodies_are_told

pub returns-clause-processes : goal.returns-clause-processes
returns-clause-processes c = processes_are_told

pub returns-clause-designs : goal.returns-clause-designs
returns-clause-designs c = designs_are_told
