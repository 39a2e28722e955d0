use Rattle.vhdl_tree.proofs.RowsElements.{view_aggregate}
use Rattle.vhdl_tree.proofs.expression.Expr.aggregate.Goals as goal

pub returns : goal.returns
returns c = view_aggregate c.args.at c.args.elements
