use Rattle.vhdl_tree.proofs.Roles.{no_name}
use Rattle.vhdl_tree.proofs.expression.Expr.into_name.Goals as goal

pub returns : goal.returns
returns c = no_name c.args.self c.in_default.not-Name
