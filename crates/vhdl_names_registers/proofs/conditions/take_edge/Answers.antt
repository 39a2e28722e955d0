use Rattle.std.proofs.Common.{List, Option, sym, ap, ◌∙◌}
use Rattle.vhdl_names_trees.specs.declared.test.Test.{Test as CodeTest}
use Rattle.vhdl_names_rules.specs.units.Expressions.{Test}
use Rattle.vhdl_names_trees.specs.views.Tests.{test_view}
use Rattle.vhdl_names_trees.specs.views.Vectors.{place_view}
use Rattle.vhdl_names_rules.specs.Edges.{Edge, begun}
use Rattle.vhdl_names_registers.specs.Views.{tests_view}
use Rattle.vhdl_names_registers.proofs.Taking.{begun_by, begins_event, begins_none}
use Rattle.vhdl_names_registers.proofs.conditions.take_edge.Goals as goal

pub returns-in_err-take_start : goal.returns-in_err-take_start
returns-in_err-take_start c = rw c.from_residual.ensures (ap begun_by c.in_err-take_start.ensures)

pub returns-in-Ok : goal.returns-in-Ok
returns-in-Ok c =
    sym (ap (λ (t : Test). begun t (tests_view c.take_start.new.all)) c.in-Ok.ensures.edge) ∙ ap begun_by c.in_ok-take_start.ensures

-- what begins so
abbrev begins : (t : CodeTest) (ts : List Test) → Option (Edge × List Test)
begins t ts = begun (test_view t) ts

pub returns-in_err-place-in-Err : goal.returns-in_err-place-in-Err
returns-in_err-place-in-Err c =
    let all = tests_view c.take_start.new.all in
    rw c.from_residual-in_err-place-in-Err.ensures
    (sym (begins_none (test_view c.in-Err.test) all c.in-Err.ensures.other c.in_err-place-in-Err.ensures)
    ∙ (ap (λ (t : CodeTest). begins t all) c.in-Err.ensures.same ∙ ap begun_by c.in_ok-take_start.ensures))

pub returns-in_err-kind-in-Err : goal.returns-in_err-kind-in-Err
returns-in_err-kind-in-Err c =
    let all = tests_view c.take_start.new.all in
    rw c.from_residual-in_err-kind-in-Err.ensures
    (c.in_err-kind-in-Err.ensures
    ∙ (sym (begins_event (test_view c.in-Err.test) all (place_view c.in_ok-place-in-Err.place) c.in_ok-place-in-Err.ensures)
    ∙ (ap (λ (t : CodeTest). begins t all) c.in-Err.ensures.same ∙ ap begun_by c.in_ok-take_start.ensures)))

pub returns-in_ok-kind-in-Err : goal.returns-in_ok-kind-in-Err
returns-in_ok-kind-in-Err c =
    let all = tests_view c.take_start.new.all in
    c.in_ok-kind-in-Err.ensures
    ∙ (sym (begins_event (test_view c.in-Err.test) all (place_view c.in_ok-place-in-Err.place) c.in_ok-place-in-Err.ensures)
    ∙ (ap (λ (t : CodeTest). begins t all) c.in-Err.ensures.same ∙ ap begun_by c.in_ok-take_start.ensures))
