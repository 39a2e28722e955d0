use Rattle.std.proofs.Common.{sym}
use Rattle.vhdl_names_trees.proofs.rows.Parted.{no_event}
use Rattle.vhdl_names_trees.proofs.test.Test.into_event.Goals as goal

pub returns-in_default : goal.returns-in_default
returns-in_default c = sym (no_event c.args.self c.in_default.not-Event)
