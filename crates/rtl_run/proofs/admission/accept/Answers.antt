use Rattle.std.proofs.Common.{subst}
use Rattle.rtl_net.specs.Core.{core}
use Rattle.rtl_check.specs.Verdicts.{IsJudgement}
use Rattle.rtl_run.proofs.Admitting.{by_processes, by_nets}
use Rattle.rtl_run.proofs.admission.accept.Goals as goal

pub returns-in-ByProcesses-clause-accepted : goal.returns-in-ByProcesses-clause-accepted
returns-in-ByProcesses-clause-accepted c = by_processes c.in-ByProcesses.report (subst (IsJudgement (core c.args.net.now)) c.in-ByProcesses.is c.in_ok-report.ensures.judgement)

pub returns-in-ByNets-clause-accepted : goal.returns-in-ByNets-clause-accepted
returns-in-ByNets-clause-accepted c = by_nets c.in-ByNets.report (subst (IsJudgement (core c.args.net.now)) c.in-ByNets.is c.in_ok-report.ensures.judgement)
