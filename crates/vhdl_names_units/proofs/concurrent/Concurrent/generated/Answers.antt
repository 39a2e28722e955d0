use Rattle.vhdl_names_units.proofs.rows.Concurrent.{view_generate}
use Rattle.vhdl_names_units.proofs.concurrent.Concurrent.generated.Goals as goal

pub returns : goal.returns
returns c = view_generate c.args.label c.args.at c.args.scheme c.args.statements
