use Rattle.std.proofs.Common.{None, refl, sym, ◌∙◌}
use Rattle.rtl_net.specs.Bodies.{test_view}
use Rattle.rtl_process_kinds.specs.BodyViews.{asked_by_test, asked_first}
use Rattle.rtl_process_kinds.proofs.ResetBranches.{no_first, the_first}
use Rattle.rtl_process_kinds.proofs.reset_tests.asked_first.Goals as goal

pub returns-then-is_empty : goal.returns-then-is_empty
returns-then-is_empty c =
    let a = c.in-If in
    no_first asked_first c.args.statement.now a.at a.branches a.otherwise a.is None refl (λ s. refl) (sym c.is_empty.ensures ∙ c.if-is_empty.true)

pub returns-else-is_empty : goal.returns-else-is_empty
returns-else-is_empty c =
    let a = c.in-If in
    c.asked_by_test.ensures
    ∙ the_first asked_first c.args.statement.now a.at a.branches a.otherwise a.is (λ b. asked_by_test (test_view b.test)) (λ b rest. refl) c.index.result.now
    (sym c.is_empty.ensures ∙ c.if-is_empty.false) c.index.ensures
