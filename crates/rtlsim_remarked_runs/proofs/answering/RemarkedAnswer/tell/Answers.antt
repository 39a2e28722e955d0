use Rattle.rtlsim_remarked_runs.proofs.Telling.{tells_behind}
use Rattle.rtlsim_remarked_runs.proofs.answering.RemarkedAnswer.tell.Goals as goal

pub returns-clause-told : goal.returns-clause-told
returns-clause-told g c = tells_behind _ _ _ _ _ c.tell-said.ensures.told c.push_remark.ensures
