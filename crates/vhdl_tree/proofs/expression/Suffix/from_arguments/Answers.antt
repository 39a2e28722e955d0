use Rattle.vhdl_tree.proofs.Rows.{view_arguments}
use Rattle.vhdl_tree.proofs.expression.Suffix.from_arguments.Goals as goal

pub returns : goal.returns
returns c = view_arguments c.args.all
