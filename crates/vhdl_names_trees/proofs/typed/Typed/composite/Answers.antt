use Rattle.vhdl_names_trees.proofs.rows.Composites.{view_composite}
use Rattle.vhdl_names_trees.proofs.typed.Typed.composite.Goals as goal

pub returns : goal.returns
returns c = view_composite c.args.at c.args.elements
