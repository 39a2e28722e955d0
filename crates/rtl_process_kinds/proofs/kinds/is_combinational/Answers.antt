use Rattle.std.proofs.Common.{arith}
use Rattle.rtl_process_kinds.proofs.Combinational.{kind_there}
use Rattle.rtl_process_kinds.proofs.kinds.is_combinational.Goals as goal

pub returns-in-Combinational : goal.returns-in-Combinational
returns-in-Combinational c = kind_there c.args.kinds.now c.args.process _ _ (omega arith) c.in-Combinational.is

pub returns-in-Clocked : goal.returns-in-Clocked
returns-in-Clocked c = kind_there c.args.kinds.now c.args.process _ _ (omega arith) c.in-Clocked.is

pub returns-in-Mixed : goal.returns-in-Mixed
returns-in-Mixed c = kind_there c.args.kinds.now c.args.process _ _ (omega arith) c.in-Mixed.is
