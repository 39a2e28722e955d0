use Rattle.std.proofs.Common.{◌≡◌, IfOk, ap, subst, ◌∙◌}
use Rattle.vhdl_names_rules.specs.Choices.{nothing_done}
use Rattle.vhdl_names_trees.specs.views.Tests.{test_view}
use Rattle.vhdl_names_units.specs.views.Sequential.{body_view, statement_view}
use Rattle.vhdl_names_statements.specs.steps.Deciding.{either}
use Rattle.vhdl_names_statements.proofs.selecting.read_only.Goals as goal

pub returns : goal.returns
returns c =
    let t = test_view c.args.truth in
    let same = ap (λ xs. either c.args.at t xs (body_view c.in_ok-otherwise.otherwise)) c.in_ok-done.ensures ∙ ap (either c.args.at t nothing_done) c.in_ok-otherwise.ensures in
    subst (λ y. IfOk c.either.result (λ z. statement_view z ≡ y)) same c.either.ensures
