use Rattle.std.proofs.Common.{subst}
use Rattle.rtl_net.specs.Core.{core}
use Rattle.rtl_check.specs.Verdicts.{IsJudgement}
use Rattle.rtl_recheck.proofs.SameReports.{one, other_is}
use Rattle.rtl_recheck.proofs.rechecking.recheck_by_nets.Goals as goal

pub returns-in-ByNets : goal.returns-in-ByNets
returns-in-ByNets c =
    let net = core c.args.net.now in
    let (accepted, R) = subst (IsJudgement net) c.in-ByNets.is c.in_ok-own.ensures.judgement in (
      λ t. (accepted, other_is net c.in-ByNets.own c.args.report.now R (c.are_same.ensures.0 t)),
      λ (a, S). c.are_same.ensures.1 (one net c.in-ByNets.own c.args.report.now R c.one_net_report.ensures S),
    )

pub returns-in-ByProcesses : goal.returns-in-ByProcesses
returns-in-ByProcesses c =
    let (accepted, R) = subst (IsJudgement (core c.args.net.now)) c.in-ByProcesses.is c.in_ok-own.ensures.judgement in
    (λ e. absurd cc, λ (a, S). absurd (R.rest.by_processes S.by_nets))

pub returns : goal.returns
returns c =
    let faults = subst (IsJudgement (core c.args.net.now)) c.in-Faulty.is c.in_ok-own.ensures.judgement in
    (λ e. absurd cc, λ (a, S). absurd ((c.faults_are_listed.ensures (core c.args.net.now)).none_if_accepted _ faults a))
