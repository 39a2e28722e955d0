use Rattle.vhdl_values.proofs.Kept.{IsKept-seen}
use Rattle.vhdl_values.proofs.Remade.{IsMarked-kept}
use Rattle.vhdl_values.proofs.vector.Vec9.stripped.Goals as goal

pub returns : goal.returns
returns c = IsMarked-kept _ _ _ _ _ _ _ (IsKept-seen _ _ _ _ _ _ c.self.invariant c.self.view_is) c.mask.ensures
