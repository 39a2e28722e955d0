use Rattle.std.proofs.Common.{sym}
use Rattle.vhdl_names_trees.proofs.rows.Parted.{none_alike}
use Rattle.vhdl_names_trees.proofs.test.Test.into_alike.Goals as goal

pub returns-in_default : goal.returns-in_default
returns-in_default c = sym (none_alike c.args.self c.in_default.not-Alike)
