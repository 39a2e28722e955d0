use Rattle.std.proofs.Common.{ℕ, List, map, replicate, Some, None, sym, ap, ◌∙◌}
use Rattle.std.proofs.lemmas.Result.{IfOk-weaker}
use Rattle.rtl_model.specs.bodies.Body as m
use Rattle.rtl_model.specs.bodies.Looks.{expr_looks}
use Rattle.rtl_net.specs.Indices.{numbers}
use Rattle.rtl_net.specs.declared.body.RowsOf.{RowsOf}
use Rattle.rtl_net.specs.Bodies.{rows_view}
use Rattle.rtl_looks.specs.declared.hubs.Look.TheVariants as l
use Rattle.rtl_looks.specs.Denoting.{look_at}
use Rattle.rtl_looks.proofs.Operands.{of_nets, of_elements, of_constants, as_evaluates, with_looks}
use Rattle.rtl_looks.proofs.values.rows_looks.Goals as goal

pub returns-in_ok-nets-in-Signals : goal.returns-in_ok-nets-in-Signals
returns-in_ok-nets-in-Signals c =
    let es = c.args.elements.now.looks.items in
    let hs = c.args.hubs.now.hubs.items in
    let ns = numbers c.in-Signals.nets in
    IfOk-weaker c.nets_looks.result _ _
    (λ v h. as_evaluates _ (λ so_far. sym (ap (λ (x : RowsOf). expr_looks so_far (rows_view x)) c.in-Signals.is))
    (with_looks (λ so_far. expr_looks so_far (m.signal ns)) (sym (h ∙ ap (λ (xs : List ℕ). map (λ n. Some (l.Net n)) xs) (c.deref.ensures.value ∙ c.in_ok-nets-in-Signals.ensures))) (of_nets es hs ns)))
    c.nets_looks.ensures

pub returns-in_ok-numbers-in-Variables : goal.returns-in_ok-numbers-in-Variables
returns-in_ok-numbers-in-Variables c =
    let es = c.args.elements.now.looks.items in
    let hs = c.args.hubs.now.hubs.items in
    let ns = numbers c.in-Variables.numbers in
    IfOk-weaker c.at_each.result _ _
    (λ v h. as_evaluates _ (λ so_far. sym (ap (λ (x : RowsOf). expr_looks so_far (rows_view x)) c.in-Variables.is))
    (with_looks (λ so_far. expr_looks so_far (m.variable ns)) (sym (h ∙ ap (map (look_at es)) (c.deref-in-Variables.ensures.value ∙ c.in_ok-numbers-in-Variables.ensures))) (of_elements es hs ns)))
    c.at_each.ensures

pub returns-in-Constants : goal.returns-in-Constants
returns-in-Constants c =
    let es = c.args.elements.now.looks.items in
    let hs = c.args.hubs.now.hubs.items in
    let vs = c.in-Constants.values.items in
    IfOk-weaker c.repeated.result _ _
    (λ v h. as_evaluates _ (λ so_far. sym (ap (λ (x : RowsOf). expr_looks so_far (rows_view x)) c.in-Constants.is))
    (with_looks (λ so_far. expr_looks so_far (m.constant vs)) (sym (h ∙ ap (λ (n : ℕ). replicate n None) (c.len.ensures ∙ c.in-Constants.values.ok.0))) (of_constants es hs vs)))
    c.repeated.ensures
