use Rattle.std.proofs.Common.{◌≡◌, ◌∷◌, [], ap, ◌∙◌}
use Rattle.vhdl_names_rules.specs.Names.{fixed}
use Rattle.vhdl_names_rules.specs.units.Expressions.{whole}
use Rattle.vhdl_names_rules.specs.units.Statements.{single}
use Rattle.vhdl_names_trees.specs.views.Vectors.{value_view}
use Rattle.vhdl_names_units.specs.views.Sequential.{body_view, statement_view, statements_of, statements_view}
use Rattle.vhdl_names_units.specs.views.Targets.{assigned_by}
use Rattle.vhdl_names_statements.specs.steps.Deciding.{boolean_assigned}
use Rattle.vhdl_names_statements.proofs.steps.Deciding.{on_ok}
use Rattle.vhdl_names_statements.proofs.selecting.boolean_assigned.Goals as goal

pub returns : goal.returns
returns c =
    let at = c.args.at in
    let x = c.args.object in
    on_ok (λ v. statements_view v ≡ statement_view c.assigned.result ∷ []) (λ v. body_view v ≡ boolean_assigned at x c.args.value) c.single.result
    (λ v h. ap statements_of (h ∙ ap (λ s. s ∷ []) (c.assigned.ensures ∙ ap (λ v. assigned_by at x (fixed whole) (single (value_view v))) c.in_ok-new.ensures.ok))) c.single.ensures
