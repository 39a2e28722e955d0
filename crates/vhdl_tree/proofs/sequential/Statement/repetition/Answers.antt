use Rattle.vhdl_tree.proofs.RowsStatements.{view_for}
use Rattle.vhdl_tree.proofs.sequential.Statement.repetition.Goals as goal

pub returns : goal.returns
returns c = view_for c.args.at c.args.parameter c.args.range c.args.statements c.args.end_label
