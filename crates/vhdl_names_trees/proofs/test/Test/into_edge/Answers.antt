use Rattle.std.proofs.Common.{refl}
use Rattle.vhdl_names_trees.proofs.rows.Parted.{no_call}
use Rattle.vhdl_names_trees.proofs.test.Test.into_edge.Goals as goal

pub returns-in_default : goal.returns-in_default
returns-in_default c = record { edge = tt; same = refl; other = no_call c.args.self c.in_default.not-Edge }
