use Rattle.rtl_model.specs.simulation.Levels.{bound}
use Rattle.rtl_check_levels.proofs.OfNets.{shown, shown_levels, loop_of}
use Rattle.rtl_check_levels.proofs.laws.tables_are_of_nets.Goals as goal

pub returns-clause-levels : goal.returns-clause-levels
returns-clause-levels c n table levels from greatest t h = (
  (c.levels_are_shown.ensures n levels from (shown_levels n table levels from greatest t h)).1,
  λ clocks by_processes k. (c.reports_are_shown.ensures n levels from clocks (bound n greatest)).1 (shown n table levels from greatest t h by_processes clocks k),
)

pub returns-clause-loops : goal.returns-clause-loops
returns-clause-loops c n table round t h = loop_of n table t round h
