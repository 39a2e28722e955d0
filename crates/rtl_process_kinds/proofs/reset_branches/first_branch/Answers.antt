use Rattle.std.proofs.Common.{refl, ap, sym, ◌∙◌, List}
use Rattle.rtl_model.specs.bodies.Body.{done}
use Rattle.rtl_net.specs.declared.body.Statement.{Statement}
use Rattle.rtl_net.specs.Bodies.{statements_of}
use Rattle.rtl_process_kinds.specs.ResetBranches.{first_branch}
use Rattle.rtl_process_kinds.proofs.ResetBranches.{no_first, the_first}
use Rattle.rtl_process_kinds.proofs.reset_branches.first_branch.Goals as goal

pub returns-then-is_empty : goal.returns-then-is_empty
returns-then-is_empty c =
    let a = c.in-If in
    no_first first_branch c.args.statement.now a.at a.branches a.otherwise a.is done refl (λ s. refl) (sym c.is_empty.ensures ∙ c.if-is_empty.true)

pub returns-else-is_empty : goal.returns-else-is_empty
returns-else-is_empty c =
    let a = c.in-If in
    ap (λ (xs : List Statement). statements_of xs) c.deref.ensures.value
    ∙ the_first first_branch c.args.statement.now a.at a.branches a.otherwise a.is (λ b. statements_of b.statements.items) (λ b rest. refl) c.index.result.now
    (sym c.is_empty.ensures ∙ c.if-is_empty.false) c.index.ensures
