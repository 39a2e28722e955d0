use Rattle.std.proofs.Common.{ap, sym, ◌∙◌}
use Rattle.std.specs.Prelude.{option_map}
use Rattle.vhdl_tree.specs.View as tree
use Rattle.vhdl_names_rules.specs.declared.fault.NameProblem.TheVariants.{NoSensitivity}
use Rattle.vhdl_names_registers.specs.Views.{edge_view}
use Rattle.vhdl_names_rules.proofs.Passing.{told_by}
use Rattle.vhdl_names.proofs.Finding.{tells_at}
use Rattle.vhdl_names.proofs.Told.{wait_condition, wait_no_edge}
use Rattle.vhdl_names.proofs.processes.edge_awaited.Goals as goal

pub returns-in_err-condition-clause-told : goal.returns-in_err-condition-clause-told
returns-in_err-condition-clause-told c =
    told_by _ _ _ c.from_residual.result c.from_residual.ensures.1 (λ e p. p)
    (wait_condition c.args.sight.now (tree.wait_view c.args.wait.now) _ c.in_err-condition.ensures.told)

pub returns-in-None-clause-told : goal.returns-in-None-clause-told
returns-in-None-clause-told c =
    wait_no_edge c.args.sight.now (tree.wait_view c.args.wait.now) c.at.result _ c.in_ok-condition.ensures.given
    (sym c.in_ok-edge.ensures ∙ ap (option_map edge_view) c.in-None.is) (tells_at NoSensitivity c.args.wait.now.at c.at.result c.at.ensures)
