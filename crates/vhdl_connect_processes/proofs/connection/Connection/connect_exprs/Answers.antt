use Rattle.vhdl_connect_processes.proofs.Nodes.{on_both}
use Rattle.vhdl_connect_processes.proofs.connection.Connection.connect_exprs.Goals as goal

pub returns-clause-left : goal.returns-clause-left
returns-clause-left c =
    on_both c.connect_expr.result c.connect_expr-2.result c.and.result c.and.ensures c.connect_expr.ensures c.connect_expr-2.ensures (λ p q. p)

pub returns-clause-right : goal.returns-clause-right
returns-clause-right c =
    on_both c.connect_expr.result c.connect_expr-2.result c.and.result c.and.ensures c.connect_expr.ensures c.connect_expr-2.ensures (λ p q. q)
