use Rattle.std.proofs.Common.{arith}
use Rattle.rtl_stim_lines.proofs.Clocks.{next_after}
use Rattle.rtl_stim_lines.proofs.courses.next_toggle.Goals as goal

pub returns-clause-next : goal.returns-clause-next
returns-clause-next c = next_after c.args.first c.args.half c.args.now (omega arith) (omega arith)
