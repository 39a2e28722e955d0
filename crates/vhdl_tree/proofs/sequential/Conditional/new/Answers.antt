use Rattle.vhdl_tree.proofs.RowsStatements.{view_conditional}
use Rattle.vhdl_tree.proofs.sequential.Conditional.new.Goals as goal

pub returns : goal.returns
returns c = view_conditional c.args.condition c.args.statements
