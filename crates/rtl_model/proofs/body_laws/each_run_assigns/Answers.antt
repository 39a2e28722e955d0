use Rattle.rtl_model.proofs.bodies.Assigned.{each_run_assigns}
use Rattle.rtl_model.proofs.body_laws.each_run_assigns.Goals as goal

pub returns : goal.returns
returns c = each_run_assigns
