use Rattle.vhdl_tree.proofs.RowsStatements.{view_if}
use Rattle.vhdl_tree.proofs.sequential.Statement.conditional.Goals as goal

pub returns : goal.returns
returns c = view_if c.args.at c.args.branches c.args.otherwise c.args.end_label
