use Rattle.vhdl_names_units.proofs.rows.Sequential.{view_if}
use Rattle.vhdl_names_units.proofs.sequential.Statement.conditional.Goals as goal

pub returns : goal.returns
returns c = view_if c.args.at c.args.branches c.args.otherwise
