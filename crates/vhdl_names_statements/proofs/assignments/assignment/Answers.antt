use Rattle.std.proofs.Common.{map, false, ap}
use Rattle.vhdl_tree.specs.View as tree
use Rattle.vhdl_names_rules.specs.problems.Statements.{conditional}
use Rattle.vhdl_names_rules.proofs.Telling.{told_same}
use Rattle.vhdl_names_rules.proofs.Passing.{told_by}
use Rattle.vhdl_names_statements.proofs.assignments.assignment.Goals as goal

pub returns-in_err-statement-clause-told : goal.returns-in_err-statement-clause-told
returns-in_err-statement-clause-told c =
    let a = tree.assignment_view c.args.assignment.now in
    told_by _ c.in_err-statement.field-0.0 _ c.from_residual.result c.from_residual.ensures.1 (λ e p. p)
    (told_same _ _ _ (ap (λ bs. conditional c.args.sight.now false a.target (map tree.branch_view bs) a.otherwise) c.deref.ensures.value) c.in_err-statement.ensures.told)
