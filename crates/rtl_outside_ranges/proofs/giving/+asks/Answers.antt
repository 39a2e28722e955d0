use Rattle.std.proofs.Common.{sym, ap, ◌∙◌}
use Rattle.rtl_net.specs.Bodies.{expr_view}
use Rattle.rtl_net.specs.declared.body.Expr.{Expr}
use Rattle.rtl_outside_ranges.specs.Outside.{asks}
use Rattle.rtl_outside_ranges.proofs.Parts.{chain_asks}
use Rattle.rtl_outside_ranges.proofs.giving.+asks.Goals as goal

pub returns-then-is_empty : goal.returns-then-is_empty
returns-then-is_empty t c =
    let i = c.in-Chain in
    c.asks-then-is_empty.ensures
    ∙ (ap (λ (x : Expr). asks (expr_view x)) c.deref-then-is_empty.ensures ∙ chain_asks c.args.expr.now i.first i.rest _ i.is (sym c.is_empty.ensures ∙ c.if-is_empty.true))

pub returns-else-is_empty : goal.returns-else-is_empty
returns-else-is_empty t c =
    let i = c.in-Chain in
    c.if-is_empty.false ∙ chain_asks c.args.expr.now i.first i.rest _ i.is (sym c.is_empty.ensures ∙ c.if-is_empty.false)
