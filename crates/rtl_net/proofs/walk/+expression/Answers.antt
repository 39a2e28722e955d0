use Rattle.std.proofs.Common.{ap}
use Rattle.rtl_model.specs.bodies.Leaves.{expr_leaves}
use Rattle.rtl_net.specs.declared.body.Expr.{Expr}
use Rattle.rtl_net.specs.Bodies.{expr_view}
use Rattle.rtl_net.specs.Visits.{link_leaves}
use Rattle.rtl_net.proofs.Walks.{tells_both, tells_goes, chain_leaves}
use Rattle.rtl_net.proofs.walk.+expression.Goals as goal

pub walk_expr-returns-in-Chain : goal.walk_expr-returns-in-Chain
walk_expr-returns-in-Chain g t c =
    tells_both g.V.Visit.takes _ _ _ _ _ _ (chain_leaves c.args.expr.now c.in-Chain.first c.in-Chain.rest c.in-Chain.is)
    (rw c.deref-in-Chain.ensures at c.walk_expr-in-Chain.ensures) (rw c.deref-in-Chain-2.ensures.value at c.walk_links.ensures)

pub walk_expr-returns-in-Shifted : goal.walk_expr-returns-in-Shifted
walk_expr-returns-in-Shifted g t c =
    tells_both g.V.Visit.takes _ _ _ _ _ _ (ap (λ (x : Expr). expr_leaves (expr_view x)) c.in-Shifted.is)
    (rw c.deref-in-Shifted.ensures at c.walk_expr-in-Shifted.ensures) (rw c.deref-in-Shifted-2.ensures at c.walk_expr-in-Shifted-2.ensures)

pub walk_expr-returns-in-Chosen : goal.walk_expr-returns-in-Chosen
walk_expr-returns-in-Chosen g t c =
    tells_both g.V.Visit.takes _ _ _ _ _ _ (ap (λ (x : Expr). expr_leaves (expr_view x)) c.in-Chosen.is)
    (rw c.deref-in-Chosen.ensures at c.walk_expr-in-Chosen.ensures) c.walk_rows.ensures

pub walk_links-loop-link-preserved : goal.walk_links-loop-link-preserved
walk_links-loop-link-preserved g t c = λ end.
    tells_goes g.V.Visit.takes link_leaves _ _ c.loop-link.link-index _ _ end c.link-item.result c.loop-link-test.true c.link-item.is c.walk_expr.ensures (c.loop-link.invariant end)
