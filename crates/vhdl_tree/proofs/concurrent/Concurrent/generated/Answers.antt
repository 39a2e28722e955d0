use Rattle.vhdl_tree.proofs.RowsConcurrents.{view_generate}
use Rattle.vhdl_tree.proofs.concurrent.Concurrent.generated.Goals as goal

pub returns : goal.returns
returns c = view_generate c.args.label c.args.at c.args.scheme c.args.begin_word c.args.statements c.args.end_label
