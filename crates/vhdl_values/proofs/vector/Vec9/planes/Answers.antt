use Rattle.vhdl_values.proofs.Kept.{IsKept-seen}
use Rattle.vhdl_values.proofs.vector.Vec9.planes.Goals as goal

pub returns : goal.returns
returns c = let h = IsKept-seen _ _ _ _ _ _ c.self.invariant c.self.view_is in cc
