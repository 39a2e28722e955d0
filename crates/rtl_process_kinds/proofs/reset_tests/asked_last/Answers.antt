use Rattle.std.proofs.Common.{None, sym, ◌∙◌}
use Rattle.rtl_process_kinds.specs.BodyViews.{asked_first}
use Rattle.rtl_process_kinds.proofs.ResetBranches.{of_last}
use Rattle.rtl_process_kinds.proofs.reset_tests.asked_last.Goals as goal

pub returns : goal.returns
returns c = c.asked_first.ensures ∙ of_last asked_first None c.args.body.now c.index-body-body.result (sym c.is_empty.ensures ∙ c.if-is_empty.false) c.index-body-body.is
