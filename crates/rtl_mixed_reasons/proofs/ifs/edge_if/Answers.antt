use Rattle.std.proofs.Common.{ℕ, List, sym, ap, ◌∙◌}
use Rattle.rtl_model.specs.bodies.Body.{Branches}
use Rattle.rtl_net.specs.declared.body.Branch.{Branch}
use Rattle.rtl_mixed_reasons.specs.Reasons.{edge_in, conditions, tests_of}
use Rattle.rtl_mixed_reasons.proofs.Branching.{of-if, conditions-are}
use Rattle.rtl_mixed_reasons.proofs.ifs.edge_if.Goals as goal

pub returns-in-If : goal.returns-in-If
returns-in-If c =
    let i = c.in-If in
    let n = c.args.number in
    c.edge_in.ensures ∙ (ap (λ (bs : List Branch). edge_in n i.at 0 (tests_of bs)) c.deref.ensures.value
    ∙ (ap (edge_in n i.at 0) (sym (conditions-are _ i.branches.items))
    ∙ sym (of-if (λ (at : ℕ) (bs : Branches). edge_in n at 0 (conditions bs)) c.args.statement.now i.at i.branches _ i.is)))
