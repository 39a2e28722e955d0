use Rattle.vhdl_names_trees.proofs.rows.Tests.{not_fixed}
use Rattle.vhdl_names_trees.proofs.test.Test.as_fixed.Goals as goal

pub returns-in_default-clause-other : goal.returns-in_default-clause-other
returns-in_default-clause-other c = not_fixed c.args.self c.in_default.not-Fixed
