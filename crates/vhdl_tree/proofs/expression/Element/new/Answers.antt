use Rattle.vhdl_tree.proofs.RowsElements.{view_element}
use Rattle.vhdl_tree.proofs.expression.Element.new.Goals as goal

pub returns : goal.returns
returns c = view_element c.args.choices c.args.value
