use Rattle.std.proofs.Common.{◌≡◌, arith, ◌+◌, List, drop, ap, sym, ◌∙◌}
use Rattle.vhdl_values.specs.declared.scalar.Nine.{Nine}
use Rattle.rtl_model.specs.bodies.Body as bodies
use Rattle.rtl_model.specs.bodies.Rows.{row_at}
use Rattle.rtl_model.specs.bodies.Values.{operation_result, chosen_of, elements_of}
use Rattle.rtl_net.specs.declared.body.Expr.{Expr}
use Rattle.rtl_net.specs.declared.body.Link.{Link}
use Rattle.rtl_net.specs.Bodies.{operator_view, spacing_view, rows_view, expr_view, links_of}
use Rattle.rtl_net.proofs.Rows.{view_chain}
use Rattle.rtl_eval.proofs.Chains.{same_value}
use Rattle.rtl_eval.proofs.Weights.{weight, links_weight, operand_weight, chain_weight}
use Rattle.rtl_eval.proofs.Totals.{lighter}
use Rattle.vhdl_expand_rules.specs.Declarations.{nothing_seen}
use Rattle.vhdl_expand_rules.proofs.Items.{next_left}
use Rattle.vhdl_expand_operands.proofs.Unseen.{sized_operand, sized_operands, sized_rest, sized_start, sized_behind}
use Rattle.vhdl_expand_operands.proofs.known.+known.Goals as goal

pub chain-operate-left-requires : goal.chain-operate-left-requires
chain-operate-left-requires t c =
    let fit = sized_operands c.loop-link.left c.args.links.now c.loop-link.link-index c.link-item.result c.loop-link-test.true c.link-item.is c.loop-link.invariant.1 c.values_of.result c.values_of.ensures in
    record { operands = fit.0; width = fit.1 }

pub chain-loop-link-preserved : goal.chain-loop-link-preserved
chain-loop-link-preserved t c =
    let x = c.link-item.result in
    let left = c.loop-link.left in
    let ls = c.args.links.now in
    let i = c.loop-link.link-index in
    let both = bodies.binary (operator_view x.operator) (bodies.constant left) (expr_view x.operand) in
    let e : c.operate-left.result ≡ elements_of nothing_seen both = c.operate-left.ensures ∙ ap (operation_result (operator_view x.operator) left) c.values_of.ensures in (
      same_value nothing_seen (bodies.constant c.operate-left.result) both (drop (i + 1) ls) e
          ∙ (ap (λ (ys : List Link). elements_of nothing_seen (links_of (bodies.constant left) ys)) (sym (next_left ls i x c.loop-link-test.true c.link-item.is)) ∙ c.loop-link.invariant.0),
      sized_rest left ls i x c.loop-link-test.true c.link-item.is c.loop-link.invariant.1 c.operate-left.result c.values_of.result c.values_of.ensures c.operate-left.ensures,
    )

pub values_of-returns-in-Chain : goal.values_of-returns-in-Chain
values_of-returns-in-Chain t c =
    let first = c.in-Chain.first.value in
    let ls = c.in-Chain.rest.items in
    let whole = ap expr_view c.in-Chain.is ∙ view_chain c.in-Chain.first c.in-Chain.rest in
    let e : c.values_of-in-Chain.result ≡ elements_of nothing_seen (expr_view first) = c.values_of-in-Chain.ensures ∙ ap (λ (x : Expr). elements_of nothing_seen (expr_view x)) c.deref-in-Chain.ensures in
    c.chain.ensures
    ∙ (ap (λ (ys : List Link). elements_of nothing_seen (links_of (bodies.constant c.values_of-in-Chain.result) ys)) c.deref-in-Chain-2.ensures.value
    ∙ (same_value nothing_seen (bodies.constant c.values_of-in-Chain.result) (expr_view first) ls e ∙ ap (elements_of nothing_seen) (sym whole)))

pub chain-values_of-requires : goal.chain-values_of-requires
chain-values_of-requires t c =
    let w = sized_operand c.loop-link.left c.args.links.now c.loop-link.link-index c.link-item.result c.loop-link-test.true c.link-item.is c.loop-link.invariant.1 in
    (omega (arith, c.decreases, lighter operand_weight c.args.links.now c.loop-link.link-index c.link-item.result c.loop-link-test.true c.link-item.is), w)

pub values_of-values_of-requires-in-Chain : goal.values_of-values_of-requires-in-Chain
values_of-values_of-requires-in-Chain t c =
    let w = sized_start c.args.expr.now c.in-Chain.first c.in-Chain.rest c.deref-in-Chain.result.now c.requires c.in-Chain.is c.deref-in-Chain.ensures in
    (omega (arith, c.decreases, ap weight c.in-Chain.is, chain_weight c.in-Chain.first c.in-Chain.rest, ap weight c.deref-in-Chain.ensures), w)

pub values_of-chain-requires : goal.values_of-chain-requires
values_of-chain-requires t c =
    let w = sized_behind c.args.expr.now c.in-Chain.first c.in-Chain.rest c.deref-in-Chain.result.now c.requires c.in-Chain.is c.deref-in-Chain.ensures
    c.values_of-in-Chain.result c.deref-in-Chain-2.result.now c.values_of-in-Chain.ensures c.deref-in-Chain-2.ensures.value in
    (omega (arith, c.decreases, ap weight c.in-Chain.is, chain_weight c.in-Chain.first c.in-Chain.rest, ap links_weight c.deref-in-Chain-2.ensures.value), w)

pub values_of-returns-in-Chosen : goal.values_of-returns-in-Chosen
values_of-returns-in-Chosen t c =
    let i = c.in-Chosen in
    let index = c.values_of-in-Chosen.ensures ∙ ap (λ (x : Expr). elements_of nothing_seen (expr_view x)) c.deref-in-Chosen.ensures in
    c.row_known.ensures
    ∙ ap (λ (vs : List Nine). chosen_of i.spacing.len (row_at (spacing_view i.spacing) (elements_of nothing_seen (rows_view i.rows)) vs)) index
    ∙ sym (ap (λ (x : Expr). elements_of nothing_seen (expr_view x)) i.is)
