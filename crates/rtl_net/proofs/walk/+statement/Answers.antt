use Rattle.std.proofs.Common.{refl, ap, rules}
use Rattle.rtl_net.specs.declared.body.Statement.{Statement, the_lemmas}
use Rattle.rtl_net.specs.Visits.{statement_leaves, branch_leaves, alternative_leaves}
use Rattle.rtl_net.proofs.Walks.{tells_both, tells_same, tells_goes, if_leaves, if_alone_leaves, case_leaves}
use Rattle.rtl_net.proofs.walk.+statement.Goals as goal

pub walk_statement-walk_statements-requires : goal.walk_statement-walk_statements-requires
walk_statement-walk_statements-requires g t c κs within = (search (rules, the_lemmas), within)

pub walk_statement-walk_alternatives-requires : goal.walk_statement-walk_alternatives-requires
walk_statement-walk_alternatives-requires g t c κs within = (search (rules, the_lemmas), within)

pub walk_statement-walk_statements-requires-in-Case :
    goal.walk_statement-walk_statements-requires-in-Case
walk_statement-walk_statements-requires-in-Case g t c κs within = (search (rules, the_lemmas), within)

pub walk_statement-returns-in-AssignAt : goal.walk_statement-returns-in-AssignAt
walk_statement-returns-in-AssignAt g t c =
    tells_both g.V.Visit.takes _ _ _ _ _ _ (ap (λ (x : Statement). statement_leaves x) c.in-AssignAt.is) c.walk_expr.ensures c.walk_expr-in-AssignAt.ensures

pub walk_statement-returns-in-SetAt : goal.walk_statement-returns-in-SetAt
walk_statement-returns-in-SetAt g t c =
    tells_both g.V.Visit.takes _ _ _ _ _ _ (ap (λ (x : Statement). statement_leaves x) c.in-SetAt.is) c.walk_expr-in-SetAt.ensures c.walk_expr-in-SetAt-2.ensures

pub walk_statement-returns-in-None : goal.walk_statement-returns-in-None
walk_statement-returns-in-None g t c =
    tells_same g.V.Visit.takes _ _ _ _ (if_alone_leaves c.args.statement.now c.in-If.at c.in-If.branches c.in-If.otherwise c.in-If.is c.in-None.is)
    (rw c.deref.ensures.value at c.walk_branches.ensures)

pub walk_statement-returns-in-Some : goal.walk_statement-returns-in-Some
walk_statement-returns-in-Some g t c =
    tells_both g.V.Visit.takes _ _ _ _ _ _ (if_leaves c.args.statement.now c.in-If.at c.in-If.branches c.in-If.otherwise c.in-If.is c.in-Some.last c.in-Some.is)
    (rw c.deref.ensures.value at c.walk_branches.ensures) (rw c.deref-in-Some.ensures.value at c.walk_statements.ensures)

pub walk_statement-returns-in-Case : goal.walk_statement-returns-in-Case
walk_statement-returns-in-Case g t c =
    tells_both g.V.Visit.takes _ _ _ _ _ _ (case_leaves c.args.statement.now c.in-Case.at c.in-Case.selector c.in-Case.alternatives c.in-Case.others c.in-Case.is)
    c.walk_value-in-Case.ensures
    (tells_both g.V.Visit.takes _ _ _ _ _ _ refl (rw c.deref-in-Case.ensures.value at c.walk_alternatives.ensures)
    (rw c.deref-in-Case-2.ensures.value at c.walk_statements-in-Case.ensures))

pub walk_statements-loop-statement-preserved : goal.walk_statements-loop-statement-preserved
walk_statements-loop-statement-preserved g t c = λ end.
    tells_goes g.V.Visit.takes statement_leaves _ _ c.loop-statement.statement-index _ _ end c.statement-item.result c.loop-statement-test.true c.statement-item.is
    c.walk_statement.ensures (c.loop-statement.invariant end)

pub walk_branches-loop-branch-preserved : goal.walk_branches-loop-branch-preserved
walk_branches-loop-branch-preserved g t c = λ end.
    tells_goes g.V.Visit.takes branch_leaves _ _ c.loop-branch.branch-index _ _ end c.branch-item.result c.loop-branch-test.true c.branch-item.is
    (tells_both g.V.Visit.takes _ _ _ _ _ _ refl c.walk_test.ensures (rw c.deref.ensures.value at c.walk_statements.ensures)) (c.loop-branch.invariant end)

pub walk_alternatives-loop-alternative-preserved : goal.walk_alternatives-loop-alternative-preserved
walk_alternatives-loop-alternative-preserved g t c = λ end.
    tells_goes g.V.Visit.takes alternative_leaves _ _ c.loop-alternative.alternative-index _ _ end c.alternative-item.result c.loop-alternative-test.true c.alternative-item.is
    (rw c.deref.ensures.value at c.walk_statements.ensures) (c.loop-alternative.invariant end)
