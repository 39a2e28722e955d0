use Rattle.std.proofs.Common.{◌≡◌, arith, ◌+◌, List, drop, ap, sym, ◌∙◌, subst}
use Rattle.vhdl_values.specs.declared.scalar.Nine.{Nine}
use Rattle.rtl_model.specs.bodies.Body as bodies
use Rattle.rtl_model.specs.bodies.Rows.{row_at}
use Rattle.rtl_model.specs.bodies.Values.{operation_result, elements_of, chosen_of}
use Rattle.rtl_model.specs.bodies.Fits.{FitsExpr}
use Rattle.rtl_net.specs.declared.body.Expr.{Expr}
use Rattle.rtl_net.specs.declared.body.Link.{Link}
use Rattle.rtl_net.specs.Bodies.{operator_view, spacing_view, rows_view, expr_view, links_of}
use Rattle.rtl_net.proofs.Rows.{view_chain}
use Rattle.rtl_eval.specs.Seeing.{seen_of, Within}
use Rattle.rtl_eval.proofs.Chains.{within-map, same_value, fits_reduced, link_fits, rest_at, chain_at, within_link, within_first, within_rest}
use Rattle.rtl_eval.proofs.Weights.{weight, links_weight, operand_weight, chain_weight}
use Rattle.rtl_eval.proofs.Totals.{lighter}
use Rattle.rtl_eval.proofs.expressions.+expression.Goals as goal

pub chain-operate-left-requires : goal.chain-operate-left-requires
chain-operate-left-requires t c =
    let fit = link_fits (seen_of c.args.seen) c.loop-link.left c.args.links.now c.loop-link.link-index c.link-item.result c.loop-link-test.true c.link-item.is c.loop-link.invariant.1 c.value.ensures in
    record { operands = fit.0; width = fit.1 }

pub chain-loop-link-preserved : goal.chain-loop-link-preserved
chain-loop-link-preserved t c =
    let x = c.link-item.result in
    let seen = seen_of c.args.seen in
    let left = c.loop-link.left in
    let ls = c.args.links.now in
    let i = c.loop-link.link-index in
    let now = chain_at seen left ls i x c.loop-link-test.true c.link-item.is c.loop-link.invariant.1 in
    let both = bodies.binary (operator_view x.operator) (bodies.constant left) (expr_view x.operand) in
    let e : c.operate-left.result ≡ elements_of seen both = c.operate-left.ensures ∙ ap (operation_result (operator_view x.operator) left) c.value.ensures in (
      same_value seen (bodies.constant c.operate-left.result) both (drop (i + 1) ls) e
          ∙ (ap (λ (ys : List Link). elements_of seen (links_of (bodies.constant left) ys)) (sym (rest_at ls i x c.loop-link-test.true c.link-item.is)) ∙ c.loop-link.invariant.0),
      subst (λ (v : List Nine). Within seen (λ scope. FitsExpr scope (links_of (bodies.constant v) (drop (i + 1) ls)))) (sym e)
          (within-map seen (λ scope. FitsExpr scope (links_of both (drop (i + 1) ls))) (λ scope. FitsExpr scope (links_of (bodies.constant (elements_of seen both)) (drop (i + 1) ls)))
          (λ scope f. fits_reduced seen scope both (drop (i + 1) ls) f) now),
    )

pub value-returns-in-Chain : goal.value-returns-in-Chain
value-returns-in-Chain t c =
    let seen = seen_of c.args.seen in
    let first = c.in-Chain.first.value in
    let ls = c.in-Chain.rest.items in
    let whole = ap expr_view c.in-Chain.is ∙ view_chain c.in-Chain.first c.in-Chain.rest in
    let e : c.value-in-Chain.result ≡ elements_of seen (expr_view first) = c.value-in-Chain.ensures ∙ ap (λ (x : Expr). elements_of seen (expr_view x)) c.deref-in-Chain.ensures in
    c.chain.ensures
    ∙ (ap (λ (ys : List Link). elements_of seen (links_of (bodies.constant c.value-in-Chain.result) ys)) c.deref-in-Chain-2.ensures.value
    ∙ (same_value seen (bodies.constant c.value-in-Chain.result) (expr_view first) ls e ∙ ap (elements_of seen) (sym whole)))

pub chain-value-requires : goal.chain-value-requires
chain-value-requires t c =
    let w = within_link (seen_of c.args.seen) c.loop-link.left c.args.links.now c.loop-link.link-index c.link-item.result c.loop-link.invariant.1 c.loop-link-test.true c.link-item.is in
    (omega (arith, c.decreases, lighter operand_weight c.args.links.now c.loop-link.link-index c.link-item.result c.loop-link-test.true c.link-item.is), w)

pub value-value-requires-in-Chain : goal.value-value-requires-in-Chain
value-value-requires-in-Chain t c =
    let w = within_first (seen_of c.args.seen) c.args.expr.now c.in-Chain.first c.in-Chain.rest c.deref-in-Chain.result.now c.requires c.in-Chain.is c.deref-in-Chain.ensures in
    (omega (arith, c.decreases, ap weight c.in-Chain.is, chain_weight c.in-Chain.first c.in-Chain.rest, ap weight c.deref-in-Chain.ensures), w)

pub value-chain-requires : goal.value-chain-requires
value-chain-requires t c =
    let w = within_rest (seen_of c.args.seen) c.args.expr.now c.in-Chain.first c.in-Chain.rest c.deref-in-Chain.result.now c.value-in-Chain.result c.deref-in-Chain-2.result.now
    c.requires c.in-Chain.is c.deref-in-Chain.ensures c.value-in-Chain.ensures c.deref-in-Chain-2.ensures.value in
    (omega (arith, c.decreases, ap weight c.in-Chain.is, chain_weight c.in-Chain.first c.in-Chain.rest, ap links_weight c.deref-in-Chain-2.ensures.value), w)

pub value-returns-in-Chosen : goal.value-returns-in-Chosen
value-returns-in-Chosen t c =
    let i = c.in-Chosen in
    let seen = seen_of c.args.seen in
    let index = c.value-in-Chosen.ensures ∙ ap (λ (x : Expr). elements_of seen (expr_view x)) c.deref-in-Chosen.ensures in
    c.chosen.ensures
    ∙ ap (λ (vs : List Nine). chosen_of i.spacing.len (row_at (spacing_view i.spacing) (elements_of seen (rows_view i.rows)) vs)) index
    ∙ sym (ap (λ (x : Expr). elements_of seen (expr_view x)) i.is)
