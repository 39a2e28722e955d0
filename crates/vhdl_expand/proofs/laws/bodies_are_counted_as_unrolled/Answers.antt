use Rattle.vhdl_expand.proofs.Measured.{statements-measured}
use Rattle.vhdl_expand.proofs.laws.bodies_are_counted_as_unrolled.Goals as goal

pub returns : goal.returns
returns c at body x h = let m = statements-measured at body x h in (m.n, (m.turns_are, m.costs_are))
