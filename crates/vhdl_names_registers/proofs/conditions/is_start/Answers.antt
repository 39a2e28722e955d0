use Rattle.std.proofs.Common.{sym}
use Rattle.vhdl_names_registers.proofs.Parting.{no_start}
use Rattle.vhdl_names_registers.proofs.conditions.is_start.Goals as goal

pub returns-in_default : goal.returns-in_default
returns-in_default c = sym (no_start c.args.test.now c.in_default.not-Edge c.in_default.not-Event)
