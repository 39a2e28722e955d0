use Rattle.std.proofs.Common.{arith}
use Rattle.vhdl_values.specs.Planes.{plane_of-first, plane_of-second, plane_of-third, plane_of-fourth, length-values_at}
use Rattle.vhdl_values.proofs.vector.Vec9PartialEq.eq.Goals as goal

pub returns : goal.returns
returns c = grind (arith, plane_of-first, plane_of-second, plane_of-third, plane_of-fourth, length-values_at)
