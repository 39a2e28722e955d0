use Rattle.std.proofs.Common.{sym}
use Rattle.vhdl_names_registers.proofs.Parting.{no_level}
use Rattle.vhdl_names_registers.proofs.seen.level.Goals as goal

pub returns-in_default : goal.returns-in_default
returns-in_default c = sym (no_level c.args.test.now c.in_default.not-Alike)
