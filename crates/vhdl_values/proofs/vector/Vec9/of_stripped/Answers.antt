use Rattle.vhdl_values.proofs.Kept.{values_at-kept}
use Rattle.vhdl_values.proofs.Remade.{IsPlanes-two, IsKept-marked}
use Rattle.vhdl_values.proofs.vector.Vec9.of_stripped.Goals as goal

pub invariant_of-result : goal.invariant_of-result
invariant_of-result c = IsPlanes-two c.args.len _ _ _ c.requires.some c.requires.room c.mask-all.ensures

pub returns : goal.returns
returns c = λ vs marked same. values_at-kept _ _ _ _ _ _ (IsKept-marked vs c.args.len _ _ _ _ marked same c.requires.some c.mask-all.ensures)
