use Rattle.std.proofs.Common.{◌*◌, take}
use Rattle.vhdl_values.specs.Planes.{HaveCodes}
use Rattle.vhdl_values.proofs.planes.Planes.of.Given as goal

abbrev pub invariant-loop-group : goal.invariant-loop-group
invariant-loop-group l = HaveCodes (take (8 * l.group) l.codes) l.planes.first l.planes.second l.planes.third l.planes.fourth
