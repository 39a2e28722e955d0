use Rattle.std.proofs.Common.{◌≡◌, IfOk, map, ap, sym, subst, ◌∙◌}
use Rattle.vhdl_names_rules.specs.Choices.{read_only}
use Rattle.vhdl_names_trees.specs.views.Tests.{test_view}
use Rattle.vhdl_names_units.specs.views.Answers.{choices_view}
use Rattle.vhdl_names_units.specs.views.Sequential.{alternative_view, alternatives_view, body_view, statement_view}
use Rattle.vhdl_names_statements.specs.steps.Deciding.{both, decided, sole_truth}
use Rattle.vhdl_names_statements.proofs.steps.Deciding.{of_one, of_none}
use Rattle.vhdl_names_statements.proofs.selecting.deciding.Goals as goal

pub returns-in_ok-first-in-Some : goal.returns-in_ok-first-in-Some
returns-in_ok-first-in-Some c =
    let a = c.args.arranged in
    let all = alternatives_view a.alternatives in
    let others = body_view a.others in
    let one = sym (ap (λ xs. sole_truth (map alternative_view xs)) c.deref.ensures.value) ∙ sym c.in-Some.ensures in
    let same = ap (λ t. decided c.args.at t all others) c.in_ok-first-in-Some.ensures
    ∙ sym (of_one c.args.at (test_view c.args.truth) (choices_view a.last) others all c.in-Some.is_true one) in
    subst (λ y. IfOk c.decided.result (λ z. statement_view z ≡ y)) same c.decided.ensures

pub returns-in_ok-done-in-None : goal.returns-in_ok-done-in-None
returns-in_ok-done-in-None c =
    let a = c.args.arranged in
    let all = alternatives_view a.alternatives in
    let others = body_view a.others in
    let none = sym (ap (λ xs. sole_truth (map alternative_view xs)) c.deref.ensures.value) ∙ sym c.in-None.ensures in
    let same = ap (λ x. both c.args.at x (statement_view c.in_ok-done-in-None.done)) c.in_ok-read-in-None.ensures
    ∙ ap (both c.args.at (read_only c.args.at (test_view c.args.truth))) (c.in_ok-done-in-None.ensures ∙ ap (λ t. decided c.args.at t all others) c.always.ensures)
    ∙ sym (of_none c.args.at (test_view c.args.truth) (choices_view a.last) others all none) in
    subst (λ y. IfOk c.both.result (λ z. statement_view z ≡ y)) same c.both.ensures
