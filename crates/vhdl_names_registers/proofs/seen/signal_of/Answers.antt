use Rattle.std.proofs.Common.{sym}
use Rattle.vhdl_names_registers.proofs.Parting.{no_signal}
use Rattle.vhdl_names_registers.proofs.seen.signal_of.Goals as goal

pub returns-in_default : goal.returns-in_default
returns-in_default c = sym (no_signal c.args.vector.now c.in_default.not-Signal)
