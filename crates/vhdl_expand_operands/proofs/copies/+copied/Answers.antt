use Rattle.std.proofs.Common.{◌+◌, ◌<◌, length, drop, sym, ap, ◌∙◌, arith}
use Rattle.rtl_model.specs.bodies.Body as bodies
use Rattle.rtl_net.specs.Bodies.{operator_view, expr_view, links_of}
use Rattle.rtl_net.proofs.Rows.{view_chain}
use Rattle.vhdl_expand_rules.proofs.Items.{next_left, none_left}
use Rattle.vhdl_expand_operands.proofs.Links.{links_push}
use Rattle.vhdl_expand_operands.proofs.copies.+copied.Goals as goal

pub links_copied-loop-link-init : goal.links_copied-loop-link-init
links_copied-loop-link-init t c = λ left. ap (λ xs. links_of (links_of left xs) c.args.links.now) (sym c.new-list.ensures.items)

pub links_copied-loop-link-preserved : goal.links_copied-loop-link-preserved
links_copied-loop-link-preserved t c = λ left.
    let x = c.link-item.result in
    let i = c.loop-link.link-index in
    let below : i < length c.args.links.now = omega arith in
    let made = links_of left c.loop-link.list.items in
    c.loop-link.invariant left
    ∙ ap (links_of made) (next_left c.args.links.now i x below c.link-item.is)
    ∙ ap (λ e. links_of (bodies.Expr.binary (operator_view x.operator) made e) (drop (i + 1) c.args.links.now)) (sym c.in_ok-operand.ensures)
    ∙ ap (λ d. links_of d (drop (i + 1) c.args.links.now)) (sym (links_push left c.loop-link.list.items c.push.new.self.items _ c.in_ok-push.ensures.items))

pub links_copied-returns : goal.links_copied-returns
links_copied-returns t c = λ left.
    sym (c.loop-link.invariant left ∙ ap (links_of (links_of left c.loop-link.list.items)) (none_left c.args.links.now c.loop-link.link-index (omega arith)))

pub copied-returns-in_ok-rest-in-Chain : goal.copied-returns-in_ok-rest-in-Chain
copied-returns-in_ok-rest-in-Chain t c =
    let whole = ap expr_view c.in-Chain.is ∙ view_chain c.in-Chain.first c.in-Chain.rest in
    view_chain c.in_ok-first-in-Chain-2.first c.in_ok-rest-in-Chain.rest
    ∙ ap (λ d. links_of d c.in_ok-rest-in-Chain.rest.items) (ap expr_view c.in_ok-first-in-Chain-2.ensures.ok ∙ c.in_ok-first-in-Chain.ensures ∙ ap expr_view c.deref-in-Chain.ensures)
    ∙ c.in_ok-rest-in-Chain.ensures (expr_view c.in-Chain.first.value)
    ∙ ap (links_of (expr_view c.in-Chain.first.value)) c.deref-in-Chain-2.ensures.value
    ∙ sym whole
