use Rattle.vhdl_names_units.proofs.rows.Sequential.{view_loop}
use Rattle.vhdl_names_units.proofs.sequential.Statement.repetition.Goals as goal

pub returns : goal.returns
returns c = view_loop c.args.at c.args.range c.args.statements
