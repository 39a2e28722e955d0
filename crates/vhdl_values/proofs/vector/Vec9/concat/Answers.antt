use Rattle.std.proofs.Common.{◌∙◌, ap, length, length-append}
use Rattle.vhdl_values.proofs.Kept.{IsKept-seen, IsPlanes-kept, values_at-kept}
use Rattle.vhdl_values.proofs.Parts.{IsKept-beside}
use Rattle.vhdl_values.proofs.vector.Vec9.concat.Goals as goal

pub invariant_of-result : goal.invariant_of-result
invariant_of-result c =
    let h = IsKept-seen _ _ _ _ _ _ c.self.invariant c.self.view_is in
    let k = IsKept-seen _ _ _ _ _ _ c.other.invariant c.other.view_is in
    IsPlanes-kept _ _ _ _ _ _ (IsKept-beside _ _ _ _ _ _ _ _ _ _ _ _ _ _ _ _ _ _ h k c.len-left.ensures.len c.len-right.ensures.len c.requires c.beside.ensures c.beside-2.ensures c.beside-3.ensures c.beside-4.ensures)

pub returns-clause-list : goal.returns-clause-list
returns-clause-list c =
    let h = IsKept-seen _ _ _ _ _ _ c.self.invariant c.self.view_is in
    let k = IsKept-seen _ _ _ _ _ _ c.other.invariant c.other.view_is in
    values_at-kept _ _ _ _ _ _ (IsKept-beside _ _ _ _ _ _ _ _ _ _ _ _ _ _ _ _ _ _ h k c.len-left.ensures.len c.len-right.ensures.len c.requires c.beside.ensures c.beside-2.ensures c.beside-3.ensures c.beside-4.ensures)

pub returns-clause-len : goal.returns-clause-len
returns-clause-len c = ap length (returns-clause-list c) ∙ length-append c.args.self.now c.args.other.now
