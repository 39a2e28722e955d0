use Rattle.vhdl_names_units.proofs.rows.Sequential.{view_case}
use Rattle.vhdl_names_units.proofs.sequential.Statement.selection.Goals as goal

pub returns : goal.returns
returns c = view_case c.args.at c.args.selector c.args.alternatives c.args.last c.args.others
