use Rattle.std.proofs.Common.{map}
use Rattle.vhdl_tree.specs.View as tree
use Rattle.vhdl_names_rules.proofs.Passing.{told_first, told_second}
use Rattle.vhdl_names_statements.proofs.steps.Assigning.{branches_kept}
use Rattle.vhdl_names_statements.proofs.conditional.branched.Goals as goal

pub returns-in_err-branches-clause-told : goal.returns-in_err-branches-clause-told
returns-in_err-branches-clause-told c = told_first _ _ _ _ c.from_residual.result c.from_residual.ensures.1 (λ e p. p) c.in_err-branches.ensures.told

pub returns-in_err-otherwise-clause-told : goal.returns-in_err-otherwise-clause-told
returns-in_err-otherwise-clause-told c =
    told_second _ _ _ _ c.from_residual-in_err-otherwise.result c.from_residual-in_err-otherwise.ensures.1 (λ e p. p)
    (branches_kept c.args.sight.now c.args.is_variable (tree.name_view c.args.target.now) (map tree.branch_view c.args.list.now) _ c.in_ok-branches.ensures.given)
    c.in_err-otherwise.ensures.told
