use Rattle.std.proofs.Common.{◌∙◌, ◌-◌, ap, arith, drop, length, length-drop}
use Rattle.std.proofs.lemmas.List.{length-take}
use Rattle.vhdl_values.proofs.Kept.{IsKept-seen, IsPlanes-kept, values_at-kept}
use Rattle.vhdl_values.proofs.Parts.{IsKept-part}
use Rattle.vhdl_values.proofs.vector.Vec9.slice.Goals as goal

pub invariant_of-result : goal.invariant_of-result
invariant_of-result c =
    let h = IsKept-seen _ _ _ _ _ _ c.self.invariant c.self.view_is in
    IsPlanes-kept _ _ _ _ _ _ (IsKept-part _ _ _ _ _ _ c.args.at c.args.len _ _ _ _ _ h c.requires.some c.requires.within (ap (λ n. n - c.args.at - c.args.len) c.len.ensures.len) c.part.ensures c.part-2.ensures c.part-3.ensures c.part-4.ensures)

pub returns-clause-list : goal.returns-clause-list
returns-clause-list c =
    let h = IsKept-seen _ _ _ _ _ _ c.self.invariant c.self.view_is in
    values_at-kept _ _ _ _ _ _ (IsKept-part _ _ _ _ _ _ c.args.at c.args.len _ _ _ _ _ h c.requires.some c.requires.within (ap (λ n. n - c.args.at - c.args.len) c.len.ensures.len) c.part.ensures c.part-2.ensures c.part-3.ensures c.part-4.ensures)

pub returns-clause-len : goal.returns-clause-len
returns-clause-len c = ap length (returns-clause-list c) ∙ length-take c.args.len (drop c.args.at c.args.self.now) ∙ simp length-drop (omega arith)
