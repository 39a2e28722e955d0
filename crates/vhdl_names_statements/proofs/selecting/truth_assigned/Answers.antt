use Rattle.std.proofs.Common.{◌≡◌, IfOk, ap, subst, ◌∙◌}
use Rattle.vhdl_values.specs.declared.scalar.Nine.TheVariants.{One}
use Rattle.vhdl_names_trees.specs.views.Tests.{test_view}
use Rattle.vhdl_names_units.specs.views.Sequential.{body_view, statement_view}
use Rattle.vhdl_names_statements.specs.steps.Deciding.{either, boolean_assigned}
use Rattle.vhdl_names_statements.proofs.selecting.truth_assigned.Goals as goal

pub returns : goal.returns
returns c =
    let t = test_view c.args.truth in
    let same = ap (λ xs. either c.args.at t xs (body_view c.in_ok-otherwise.otherwise)) c.in_ok-when_true.ensures
    ∙ ap (either c.args.at t (boolean_assigned c.args.at c.args.object One)) c.in_ok-otherwise.ensures in
    subst (λ y. IfOk c.either.result (λ z. statement_view z ≡ y)) same c.either.ensures
