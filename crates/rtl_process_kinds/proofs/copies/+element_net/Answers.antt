use Rattle.std.proofs.Common.{None, refl, ap, sym, ◌∙◌}
use Rattle.rtl_net.specs.declared.body.Expr.{Expr}
use Rattle.rtl_net.specs.Bodies.{expr_view}
use Rattle.rtl_process_kinds.specs.BodyViews.{element_net}
use Rattle.rtl_process_kinds.proofs.BodyParts.{expr_alone, expr_chain}
use Rattle.rtl_process_kinds.proofs.copies.+element_net.Goals as goal

pub returns-then-is_empty : goal.returns-then-is_empty
returns-then-is_empty t c =
    let i = c.in-Chain in
    c.element_net.ensures ∙ ap (λ (x : Expr). element_net (expr_view x)) c.deref.ensures ∙ expr_alone element_net c.args.expr.now i.first i.rest i.is (sym c.is_empty.ensures ∙ c.if-is_empty.true)

pub returns-else-is_empty : goal.returns-else-is_empty
returns-else-is_empty t c =
    let i = c.in-Chain in expr_chain element_net c.args.expr.now i.first i.rest i.is None (λ o s t. refl) (sym c.is_empty.ensures ∙ c.if-is_empty.false)
