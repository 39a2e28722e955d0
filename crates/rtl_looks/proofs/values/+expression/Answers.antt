use Rattle.std.proofs.Common.{ℕ, List, [], map, replicate, slice_index_or, Option, Some, None, sym, ap, ◌∙◌}
use Rattle.std.proofs.lemmas.Result.{IfOk-weaker}
use Rattle.vhdl_values.specs.Shifts.{counted_of}
use Rattle.rtl_model.specs.bodies.Body as m
use Rattle.rtl_model.specs.bodies.Looks.{Looks, expr_looks}
use Rattle.rtl_net.specs.Indices.{numbers}
use Rattle.rtl_net.specs.declared.body.Expr.{Expr}
use Rattle.rtl_net.specs.declared.body.Link.{Link}
use Rattle.rtl_net.specs.Bodies.{spacing_view, rows_view, expr_view, links_of}
use Rattle.rtl_net.proofs.Rows.{view_chain}
use Rattle.rtl_looks.specs.declared.hubs.Look.{Look}
use Rattle.rtl_looks.specs.declared.hubs.Look.TheVariants as l
use Rattle.rtl_looks.specs.Denoting.{look_at}
use Rattle.rtl_looks.proofs.Operands.{of_nets, of_elements, of_constants, of_counted, of_shifted, of_converted, of_chosen, summed, filled_with, as_evaluates, chained, links_more, with_looks}
use Rattle.rtl_looks.proofs.values.+expression.Goals as goal

pub chain_looks-loop-link-preserved : goal.chain_looks-loop-link-preserved
chain_looks-loop-link-preserved t c =
    let i = c.loop-link in
    links_more c.args.rest.now i.link-index c.link-item.result c.loop-link-test.true c.link-item.is i.invariant c.in_ok-operand.ensures
    (rw (c.deref.ensures.value, c.deref-in-loop-link.ensures.value) at c.in_ok-looks.ensures)

pub expr_looks-returns-in_ok-nets-in-Signal : goal.expr_looks-returns-in_ok-nets-in-Signal
expr_looks-returns-in_ok-nets-in-Signal t c =
    let es = c.args.elements.now.looks.items in
    let hs = c.args.hubs.now.hubs.items in
    let ns = numbers c.in-Signal.nets in
    IfOk-weaker c.nets_looks.result _ _
    (λ v h. as_evaluates _ (λ so_far. sym (ap (λ (x : Expr). expr_looks so_far (expr_view x)) c.in-Signal.is))
    (with_looks (λ so_far. expr_looks so_far (m.signal ns)) (sym (h ∙ ap (λ (xs : List ℕ). map (λ n. Some (l.Net n)) xs) (c.deref.ensures.value ∙ c.in_ok-nets-in-Signal.ensures))) (of_nets es hs ns)))
    c.nets_looks.ensures

pub expr_looks-returns-in_ok-numbers-in-Variable : goal.expr_looks-returns-in_ok-numbers-in-Variable
expr_looks-returns-in_ok-numbers-in-Variable t c =
    let es = c.args.elements.now.looks.items in
    let hs = c.args.hubs.now.hubs.items in
    let ns = numbers c.in-Variable.numbers in
    IfOk-weaker c.at_each.result _ _
    (λ v h. as_evaluates _ (λ so_far. sym (ap (λ (x : Expr). expr_looks so_far (expr_view x)) c.in-Variable.is))
    (with_looks (λ so_far. expr_looks so_far (m.variable ns)) (sym (h ∙ ap (map (look_at es)) (c.deref-in-Variable.ensures.value ∙ c.in_ok-numbers-in-Variable.ensures))) (of_elements es hs ns)))
    c.at_each.ensures

pub expr_looks-returns-in-Constant : goal.expr_looks-returns-in-Constant
expr_looks-returns-in-Constant t c =
    let es = c.args.elements.now.looks.items in
    let hs = c.args.hubs.now.hubs.items in
    let vs = c.in-Constant.values in
    IfOk-weaker c.repeated.result _ _
    (λ v h. as_evaluates _ (λ so_far. sym (ap (λ (x : Expr). expr_looks so_far (expr_view x)) c.in-Constant.is))
    (with_looks (λ so_far. expr_looks so_far (m.constant vs)) (sym (h ∙ ap (λ (n : ℕ). replicate n None) c.len.ensures.len)) (of_constants es hs vs)))
    c.repeated.ensures

pub expr_looks-returns-in_ok-looks-in-Filled : goal.expr_looks-returns-in_ok-looks-in-Filled
expr_looks-returns-in_ok-looks-in-Filled t c =
    IfOk-weaker c.repeated-in-Filled.result _ _
    (λ v h. as_evaluates _ (λ so_far. ap (λ (x : Expr). replicate c.in-Filled.len (slice_index_or (expr_looks so_far (expr_view x)) 0 [])) c.deref-in-Filled.ensures
    ∙ sym (ap (λ (x : Expr). expr_looks so_far (expr_view x)) c.in-Filled.is))
    (with_looks _ (sym (h ∙ ap (replicate c.in-Filled.len) (c.at.ensures ∙ ap (λ (xs : List (Option Look)). look_at xs 0) c.deref-in-Filled-2.ensures.value)))
    (filled_with c.in-Filled.len c.in_ok-looks-in-Filled.ensures)))
    c.repeated-in-Filled.ensures

pub expr_looks-returns-in_ok-looks-in-Chain : goal.expr_looks-returns-in_ok-looks-in-Chain
expr_looks-returns-in_ok-looks-in-Chain t c =
    let i = c.in-Chain in
    let first = expr_view c.deref-in-Chain.result.now in
    IfOk-weaker c.chain_looks.result _ _
    (λ v h. as_evaluates _ (λ so_far. ap (λ (x : Expr). expr_looks so_far (links_of (expr_view x) c.deref-in-Chain-2.result.now)) c.deref-in-Chain.ensures
    ∙ (ap (λ (ls : List Link). expr_looks so_far (links_of (expr_view i.first.value) ls)) c.deref-in-Chain-2.ensures.value
    ∙ sym (ap (λ (x : Expr). expr_looks so_far (expr_view x)) i.is ∙ ap (expr_looks so_far) (view_chain i.first i.rest))))
    (chained first c.deref-in-Chain-2.result.now c.in_ok-looks-in-Chain.ensures h))
    c.chain_looks.ensures

pub expr_looks-returns-in_ok-looks-in-Counted : goal.expr_looks-returns-in_ok-looks-in-Counted
expr_looks-returns-in_ok-looks-in-Counted t c =
    IfOk-weaker c.counted_looks.result _ _
    (λ v h. as_evaluates _ (λ so_far. ap (λ (x : Expr). counted_of [] c.in-Counted.operator c.in-Counted.count (expr_looks so_far (expr_view x))) c.deref-in-Counted.ensures
    ∙ sym (ap (λ (x : Expr). expr_looks so_far (expr_view x)) c.in-Counted.is))
    (with_looks _ (sym (h ∙ ap (counted_of None c.in-Counted.operator c.in-Counted.count) c.deref-in-Counted-2.ensures.value))
    (of_counted c.in-Counted.operator c.in-Counted.count c.in_ok-looks-in-Counted.ensures)))
    c.counted_looks.ensures

pub expr_looks-returns-in_ok-looks-in-Shifted : goal.expr_looks-returns-in_ok-looks-in-Shifted
expr_looks-returns-in_ok-looks-in-Shifted t c =
    let i = c.in-Shifted in
    let shifts = λ (count : Expr) (operand : Expr) (so_far : Looks). expr_looks so_far (m.shifted i.operator (expr_view count) (expr_view operand)) in
    IfOk-weaker c.all_in_each.result _ _
    (λ v h. as_evaluates _ (λ so_far. ap (λ (x : Expr). shifts x c.deref-in-Shifted-2.result.now so_far) c.deref-in-Shifted.ensures
    ∙ ap (λ (x : Expr). shifts i.count.value x so_far) c.deref-in-Shifted-2.ensures ∙ sym (ap (λ (x : Expr). expr_looks so_far (expr_view x)) i.is))
    (of_shifted c.in_ok-count-in-Shifted.ensures c.in_ok-looks-in-Shifted.ensures (rw (c.len-in-Shifted.ensures ∙ c.in_ok-looks-in-Shifted.looks.ok.0, c.deref-in-Shifted-3.ensures.value, c.deref-in-Shifted-4.ensures.value) at h)))
    c.all_in_each.ensures

pub expr_looks-returns-in_ok-all-in-Converted : goal.expr_looks-returns-in_ok-all-in-Converted
expr_looks-returns-in_ok-all-in-Converted t c =
    let i = c.in-Converted in
    IfOk-weaker c.repeated-in-Converted.result _ _
    (λ v h. as_evaluates _ (λ so_far. ap (λ (x : Expr). expr_looks so_far (m.converted i.conversion (expr_view x))) c.deref-in-Converted.ensures
    ∙ sym (ap (λ (x : Expr). expr_looks so_far (expr_view x)) i.is))
    (with_looks _ (sym (h ∙ ap (λ (n : ℕ). replicate n c.in_ok-all-in-Converted.all) (c.len-in-Converted.ensures ∙ c.in_ok-looks-in-Converted.looks.ok.0)))
    (of_converted c.in_ok-looks-in-Converted.ensures (rw c.deref-in-Converted-2.ensures.value at c.in_ok-all-in-Converted.ensures))))
    c.repeated-in-Converted.ensures

pub expr_looks-returns-in_ok-looks-in-Chosen : goal.expr_looks-returns-in_ok-looks-in-Chosen
expr_looks-returns-in_ok-looks-in-Chosen t c =
    let i = c.in-Chosen in
    let s = spacing_view i.spacing in
    IfOk-weaker c.chosen_looks.result _ _
    (λ v h. as_evaluates _ (λ so_far. ap (λ (x : Expr). expr_looks so_far (m.chosen (expr_view x) s (rows_view i.rows))) c.deref-in-Chosen.ensures
    ∙ sym (ap (λ (x : Expr). expr_looks so_far (expr_view x)) i.is))
    (of_chosen s (summed c.in_ok-index-in-Chosen.ensures (rw c.deref-in-Chosen-2.ensures.value at c.in_ok-index-in-Chosen-2.ensures)) c.in_ok-looks-in-Chosen.ensures
    (rw c.deref-in-Chosen-3.ensures.value at h)))
    c.chosen_looks.ensures
