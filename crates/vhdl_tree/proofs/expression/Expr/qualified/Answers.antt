use Rattle.vhdl_tree.proofs.RowsElements.{view_qualified}
use Rattle.vhdl_tree.proofs.expression.Expr.qualified.Goals as goal

pub returns : goal.returns
returns c = view_qualified c.args.mark c.args.at c.args.elements
