use Rattle.vhdl_tree.proofs.RowsStatements.{view_alternative}
use Rattle.vhdl_tree.proofs.sequential.Alternative.new.Goals as goal

pub returns : goal.returns
returns c = view_alternative c.args.choices c.args.statements
