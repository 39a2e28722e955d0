use Rattle.std.proofs.Common.{sym}
use Rattle.rtl_mixed_reasons.proofs.Branching.{if-at-or}
use Rattle.rtl_mixed_reasons.proofs.beside.at_or.Goals as goal

pub returns-in-If : goal.returns-in-If
returns-in-If c = let i = c.in-If in sym (if-at-or c.args.given c.args.statement.now i.at i.branches i.otherwise i.is)
