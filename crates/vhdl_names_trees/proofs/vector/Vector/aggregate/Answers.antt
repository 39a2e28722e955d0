use Rattle.vhdl_names_trees.proofs.rows.Vectors.{view_aggregate}
use Rattle.vhdl_names_trees.proofs.vector.Vector.aggregate.Goals as goal

pub returns : goal.returns
returns c = view_aggregate c.args.at c.args.range c.args.elements
