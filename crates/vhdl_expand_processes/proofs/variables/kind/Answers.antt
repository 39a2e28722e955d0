use Rattle.vhdl_expand_rules.proofs.laws.Kinds.{bounds_width}
use Rattle.vhdl_expand_processes.proofs.variables.kind.Goals as goal

pub returns-in_ok-bounds-in-Vector-clause-width : goal.returns-in_ok-bounds-in-Vector-clause-width
returns-in_ok-bounds-in-Vector-clause-width c = bounds_width _ _ _ _ c.in_ok-bounds-in-Vector.ensures
