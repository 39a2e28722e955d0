use Rattle.std.proofs.Common.{sym}
use Rattle.vhdl_names_registers.proofs.Parting.{no_null}
use Rattle.vhdl_names_registers.proofs.registers.is_null.Goals as goal

pub returns-in_default : goal.returns-in_default
returns-in_default c = sym (no_null c.args.statement.now c.in_default.not-Null)
