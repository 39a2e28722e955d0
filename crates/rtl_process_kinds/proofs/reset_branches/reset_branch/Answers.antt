use Rattle.std.proofs.Common.{sym, ◌∙◌}
use Rattle.rtl_model.specs.bodies.Body.{done}
use Rattle.rtl_process_kinds.specs.ResetBranches.{first_branch}
use Rattle.rtl_process_kinds.proofs.ResetBranches.{of_last}
use Rattle.rtl_process_kinds.proofs.reset_branches.reset_branch.Goals as goal

pub returns : goal.returns
returns c = c.first_branch.ensures ∙ of_last first_branch done c.args.body.now c.index-body-body.result (sym c.is_empty.ensures ∙ c.if-is_empty.false) c.index-body-body.is
