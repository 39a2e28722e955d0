use Rattle.rtl_model.proofs.bodies.Branching.{case_takes_a_branch}
use Rattle.rtl_model.proofs.body_laws.case_takes_a_branch.Goals as goal

pub returns : goal.returns
returns c = case_takes_a_branch
