use Rattle.vhdl_tree.specs.View as tree
use Rattle.vhdl_names_rules.proofs.Passing.{told_first, told_second}
use Rattle.vhdl_names_statements.proofs.steps.Assigning.{alone_kept}
use Rattle.vhdl_names_statements.proofs.conditional.waveform.Goals as goal

pub returns-in_err-statements-clause-told : goal.returns-in_err-statements-clause-told
returns-in_err-statements-clause-told c = told_first _ _ _ _ c.from_residual.result c.from_residual.ensures.1 (λ e p. p) c.in_err-statements.ensures.told

pub returns-in_err-condition-clause-told : goal.returns-in_err-condition-clause-told
returns-in_err-condition-clause-told c =
    told_second _ _ _ _ c.from_residual-in_err-condition.result c.from_residual-in_err-condition.ensures.1 (λ e p. p)
    (alone_kept c.args.sight.now c.args.is_variable (tree.name_view c.args.target.now) (tree.branch_view c.args.item.now).value _ c.in_ok-statements.ensures.given) c.in_err-condition.ensures.told
