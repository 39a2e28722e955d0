use Rattle.std.proofs.Common.{refl, sym, ap, ◌∙◌, arith}
use Rattle.rtl_model.specs.bodies.Body as bodies
use Rattle.rtl_net.specs.declared.body.Expr.{Expr}
use Rattle.rtl_net.specs.Bodies.{operator_view, expr_view, spacing_view, rows_view, links_of}
use Rattle.rtl_net.proofs.Rows.{view_chain}
use Rattle.rtl_eval.proofs.Weights.{weight, links_weight, chain_weight}
use Rattle.vhdl_expand_rules.specs.SameExpr.{same_expr}
use Rattle.vhdl_expand_operands.proofs.Links.{links_push}
use Rattle.vhdl_expand_same.proofs.Comparing.{unlinked_apart, alone, chain_alone, chain_apart, weight_push, other_operator, other_operand, others_alike}
use Rattle.vhdl_expand_same.proofs.same.+same.Goals as goal

pub same_chain-same_linked-requires : goal.same_chain-same_linked-requires
same_chain-same_linked-requires t c =
    let i = c.in-Some in
    (omega (arith, c.decreases, weight_push c.args.links.now i.links.now i.link.now i.ensures.cases.0), tt)

pub same_chain-returns-in-Some : goal.same_chain-returns-in-Some
same_chain-returns-in-Some t c =
    let i = c.in-Some in
    let other = links_of (expr_view c.args.right.now) c.args.others.now in
    c.same_linked.ensures
    ∙ ap (λ e. same_expr e other) (sym (links_push (expr_view c.args.left.now) i.links.now c.args.links.now i.link.now i.ensures.cases.0))

pub same_expr-same_chain-requires : goal.same_expr-same_chain-requires
same_expr-same_chain-requires t c =
    let i = c.in-Chain in
    (omega (arith, c.decreases, ap weight i.is, chain_weight i.first i.rest, ap weight c.deref-in-Chain.ensures, ap links_weight c.deref-in-Chain-2.ensures.value), tt)

pub same_expr-returns-in-Chain : goal.same_expr-returns-in-Chain
same_expr-returns-in-Chain t c =
    let i = c.in-Chain in
    let other = expr_view c.args.right.now in
    c.same_chain.ensures
    ∙ (λ j. same_expr (links_of (expr_view (c.deref-in-Chain.ensures j)) (c.deref-in-Chain-2.ensures.value j)) other)
    ∙ ap (λ e. same_expr e other) (sym (ap expr_view i.is ∙ view_chain i.first i.rest))

pub same_first-same_chain-requires : goal.same_first-same_chain-requires
same_first-same_chain-requires t c =
    let i = c.in-Chain in
    (omega (arith, c.decreases, ap weight i.is, chain_weight i.first i.rest, ap weight c.deref.ensures, ap links_weight c.deref-in-Chain.ensures.value), tt)

pub same_first-returns-in-Chain : goal.same_first-returns-in-Chain
same_first-returns-in-Chain t c =
    let i = c.in-Chain in
    let other = links_of (expr_view c.args.right.now) c.args.others.now in
    c.same_chain.ensures
    ∙ (λ j. same_expr (links_of (expr_view (c.deref.ensures j)) (c.deref-in-Chain.ensures.value j)) other)
    ∙ ap (λ e. same_expr e other) (sym (ap expr_view i.is ∙ view_chain i.first i.rest))

pub same_first-returns-in-Signal : goal.same_first-returns-in-Signal
same_first-returns-in-Signal t c = unlinked_apart c.args.left.now c.in-Signal.is (expr_view c.args.right.now) c.args.others.now (sym c.is_empty.ensures ∙ c.if-is_empty.false)

pub same_first-returns-in-Signal-2 : goal.same_first-returns-in-Signal-2
same_first-returns-in-Signal-2 t c = unlinked_apart c.args.left.now c.in-Signal.is (expr_view c.args.right.now) c.args.others.now (sym c.is_empty.ensures ∙ c.if-is_empty.false)

pub same_first-returns-in-Signal-3 : goal.same_first-returns-in-Signal-3
same_first-returns-in-Signal-3 t c = unlinked_apart c.args.left.now c.in-Signal.is (expr_view c.args.right.now) c.args.others.now (sym c.is_empty.ensures ∙ c.if-is_empty.false)

pub same_first-returns-in-Signal-4 : goal.same_first-returns-in-Signal-4
same_first-returns-in-Signal-4 t c = unlinked_apart c.args.left.now c.in-Signal.is (expr_view c.args.right.now) c.args.others.now (sym c.is_empty.ensures ∙ c.if-is_empty.false)

pub same_first-returns-in-Signal-5 : goal.same_first-returns-in-Signal-5
same_first-returns-in-Signal-5 t c = unlinked_apart c.args.left.now c.in-Signal.is (expr_view c.args.right.now) c.args.others.now (sym c.is_empty.ensures ∙ c.if-is_empty.false)

pub same_first-returns-in-Signal-6 : goal.same_first-returns-in-Signal-6
same_first-returns-in-Signal-6 t c = unlinked_apart c.args.left.now c.in-Signal.is (expr_view c.args.right.now) c.args.others.now (sym c.is_empty.ensures ∙ c.if-is_empty.false)

pub same_first-returns-in-Signal-7 : goal.same_first-returns-in-Signal-7
same_first-returns-in-Signal-7 t c = unlinked_apart c.args.left.now c.in-Signal.is (expr_view c.args.right.now) c.args.others.now (sym c.is_empty.ensures ∙ c.if-is_empty.false)

pub same_first-returns-in-Signal-8 : goal.same_first-returns-in-Signal-8
same_first-returns-in-Signal-8 t c = unlinked_apart c.args.left.now c.in-Signal.is (expr_view c.args.right.now) c.args.others.now (sym c.is_empty.ensures ∙ c.if-is_empty.false)

pub same_first-returns-in-Signal-9 : goal.same_first-returns-in-Signal-9
same_first-returns-in-Signal-9 t c = unlinked_apart c.args.left.now c.in-Signal.is (expr_view c.args.right.now) c.args.others.now (sym c.is_empty.ensures ∙ c.if-is_empty.false)

pub same_linked-same_expr-requires : goal.same_linked-same_expr-requires
same_linked-same_expr-requires t c =
    let i = c.in-Some in
    (omega (arith, c.decreases, weight_push c.args.others.now i.others.now i.other.now i.ensures.cases.0), tt)

pub same_linked-same_chain-requires : goal.same_linked-same_chain-requires
same_linked-same_chain-requires t c =
    let i = c.in-Some in
    (omega (arith, c.decreases, weight_push c.args.others.now i.others.now i.other.now i.ensures.cases.0), tt)

pub same_linked-same_linked-requires : goal.same_linked-same_linked-requires
same_linked-same_linked-requires t c =
    let i = c.in-Chain in
    (omega (arith, c.decreases, ap weight i.is, chain_weight i.first i.rest, ap weight c.deref.ensures, ap links_weight c.deref-in-Chain.ensures.value), tt)

pub same_linked-returns-then-not-same_operator : goal.same_linked-returns-then-not-same_operator
same_linked-returns-then-not-same_operator t c =
    let i = c.in-Some in
    let l = c.args.link.now in
    let m = i.other.now in
    let left = links_of (expr_view c.args.left.now) c.args.links.now in
    let right = links_of (expr_view c.args.right.now) i.others.now in
    let is = links_push (expr_view c.args.right.now) i.others.now c.args.others.now m i.ensures.cases.0 in
    other_operator (operator_view l.operator) (operator_view m.operator) left (expr_view l.operand) right (expr_view m.operand) _ is (sym c.same_operator.ensures ∙ c.if-not-same_operator.true)

pub same_linked-returns-then-same_expr : goal.same_linked-returns-then-same_expr
same_linked-returns-then-same_expr t c =
    let i = c.in-Some in
    let l = c.args.link.now in
    let m = i.other.now in
    let left = links_of (expr_view c.args.left.now) c.args.links.now in
    let right = links_of (expr_view c.args.right.now) i.others.now in
    let is = links_push (expr_view c.args.right.now) i.others.now c.args.others.now m i.ensures.cases.0 in
    c.same_chain.ensures ∙ others_alike (operator_view l.operator) (operator_view m.operator) left (expr_view l.operand) right (expr_view m.operand) _ is (sym c.same_operator.ensures ∙ c.if-not-same_operator.false) (sym c.same_expr.ensures ∙ c.if-same_expr.true)

pub same_linked-returns-else-same_expr : goal.same_linked-returns-else-same_expr
same_linked-returns-else-same_expr t c =
    let i = c.in-Some in
    let l = c.args.link.now in
    let m = i.other.now in
    let left = links_of (expr_view c.args.left.now) c.args.links.now in
    let right = links_of (expr_view c.args.right.now) i.others.now in
    let is = links_push (expr_view c.args.right.now) i.others.now c.args.others.now m i.ensures.cases.0 in
    c.if-same_expr.false ∙ other_operand (operator_view l.operator) (operator_view m.operator) left (expr_view l.operand) right (expr_view m.operand) _ is (sym c.same_operator.ensures ∙ c.if-not-same_operator.false) (sym c.same_expr.ensures ∙ c.if-same_expr.false)

pub same_linked-returns-in-Chain : goal.same_linked-returns-in-Chain
same_linked-returns-in-Chain t c =
    let i = c.in-Chain in
    let l = c.args.link.now in
    let this = bodies.binary (operator_view l.operator) (links_of (expr_view c.args.left.now) c.args.links.now) (expr_view l.operand) in
    c.same_linked.ensures
    ∙ (λ j. same_expr this (links_of (expr_view (c.deref.ensures j)) (c.deref-in-Chain.ensures.value j)))
    ∙ ap (same_expr this) (sym (ap expr_view i.is ∙ view_chain i.first i.rest))
    ∙ ap (same_expr this) (sym (alone (expr_view c.args.right.now) c.args.others.now c.in-None.ensures.cases))

pub same_chosen-returns-then-is_empty : goal.same_chosen-returns-then-is_empty
same_chosen-returns-then-is_empty t c =
    let i = c.in-Chain in
    let e = bodies.chosen (expr_view c.args.index.now) (spacing_view c.args.spacing) (rows_view c.args.rows.now) in
    c.same_chosen.ensures ∙ ap (λ (x : Expr). same_expr e (expr_view x)) c.deref-then-is_empty.ensures
    ∙ chain_alone e c.args.right.now i.first i.rest i.is (sym c.is_empty.ensures ∙ c.if-is_empty.true)

pub same_chosen-returns-else-is_empty : goal.same_chosen-returns-else-is_empty
same_chosen-returns-else-is_empty t c =
    let i = c.in-Chain in
    c.if-is_empty.false
    ∙ chain_apart (bodies.chosen (expr_view c.args.index.now) (spacing_view c.args.spacing) (rows_view c.args.rows.now)) c.args.right.now i.first i.rest i.is (λ o x y. refl) (sym c.is_empty.ensures ∙ c.if-is_empty.false)

pub same_converted-returns-then-is_empty : goal.same_converted-returns-then-is_empty
same_converted-returns-then-is_empty t c =
    let i = c.in-Chain in
    let e = bodies.converted c.args.conversion (expr_view c.args.operand.now) in
    c.same_converted.ensures ∙ ap (λ (x : Expr). same_expr e (expr_view x)) c.deref-then-is_empty.ensures
    ∙ chain_alone e c.args.right.now i.first i.rest i.is (sym c.is_empty.ensures ∙ c.if-is_empty.true)

pub same_converted-returns-else-is_empty : goal.same_converted-returns-else-is_empty
same_converted-returns-else-is_empty t c =
    let i = c.in-Chain in
    c.if-is_empty.false
    ∙ chain_apart (bodies.converted c.args.conversion (expr_view c.args.operand.now)) c.args.right.now i.first i.rest i.is (λ o x y. refl) (sym c.is_empty.ensures ∙ c.if-is_empty.false)

pub same_counted-returns-then-is_empty : goal.same_counted-returns-then-is_empty
same_counted-returns-then-is_empty t c =
    let i = c.in-Chain in
    let e = bodies.counted c.args.operator c.args.count (expr_view c.args.operand.now) in
    c.same_counted.ensures ∙ ap (λ (x : Expr). same_expr e (expr_view x)) c.deref-then-is_empty.ensures
    ∙ chain_alone e c.args.right.now i.first i.rest i.is (sym c.is_empty.ensures ∙ c.if-is_empty.true)

pub same_counted-returns-else-is_empty : goal.same_counted-returns-else-is_empty
same_counted-returns-else-is_empty t c =
    let i = c.in-Chain in
    c.if-is_empty.false
    ∙ chain_apart (bodies.counted c.args.operator c.args.count (expr_view c.args.operand.now)) c.args.right.now i.first i.rest i.is (λ o x y. refl) (sym c.is_empty.ensures ∙ c.if-is_empty.false)

pub same_filled-returns-then-is_empty : goal.same_filled-returns-then-is_empty
same_filled-returns-then-is_empty t c =
    let i = c.in-Chain in
    let e = bodies.filled c.args.len (expr_view c.args.element.now) in
    c.same_filled.ensures ∙ ap (λ (x : Expr). same_expr e (expr_view x)) c.deref-then-is_empty.ensures
    ∙ chain_alone e c.args.right.now i.first i.rest i.is (sym c.is_empty.ensures ∙ c.if-is_empty.true)

pub same_filled-returns-else-is_empty : goal.same_filled-returns-else-is_empty
same_filled-returns-else-is_empty t c =
    let i = c.in-Chain in
    c.if-is_empty.false
    ∙ chain_apart (bodies.filled c.args.len (expr_view c.args.element.now)) c.args.right.now i.first i.rest i.is (λ o x y. refl) (sym c.is_empty.ensures ∙ c.if-is_empty.false)

pub same_inverse-returns-then-is_empty : goal.same_inverse-returns-then-is_empty
same_inverse-returns-then-is_empty t c =
    let i = c.in-Chain in
    let e = bodies.inverse (expr_view c.args.operand.now) in
    c.same_inverse.ensures ∙ ap (λ (x : Expr). same_expr e (expr_view x)) c.deref-then-is_empty.ensures
    ∙ chain_alone e c.args.right.now i.first i.rest i.is (sym c.is_empty.ensures ∙ c.if-is_empty.true)

pub same_inverse-returns-else-is_empty : goal.same_inverse-returns-else-is_empty
same_inverse-returns-else-is_empty t c =
    let i = c.in-Chain in
    c.if-is_empty.false
    ∙ chain_apart (bodies.inverse (expr_view c.args.operand.now)) c.args.right.now i.first i.rest i.is (λ o x y. refl) (sym c.is_empty.ensures ∙ c.if-is_empty.false)

pub same_shifted-returns-then-is_empty : goal.same_shifted-returns-then-is_empty
same_shifted-returns-then-is_empty t c =
    let i = c.in-Chain in
    let e = bodies.shifted c.args.operator (expr_view c.args.count.now) (expr_view c.args.operand.now) in
    c.same_shifted.ensures ∙ ap (λ (x : Expr). same_expr e (expr_view x)) c.deref-then-is_empty.ensures
    ∙ chain_alone e c.args.right.now i.first i.rest i.is (sym c.is_empty.ensures ∙ c.if-is_empty.true)

pub same_shifted-returns-else-is_empty : goal.same_shifted-returns-else-is_empty
same_shifted-returns-else-is_empty t c =
    let i = c.in-Chain in
    c.if-is_empty.false
    ∙ chain_apart (bodies.shifted c.args.operator (expr_view c.args.count.now) (expr_view c.args.operand.now)) c.args.right.now i.first i.rest i.is (λ o x y. refl) (sym c.is_empty.ensures ∙ c.if-is_empty.false)
