use Rattle.std.proofs.Common.{◌≡◌, false, true, refl, subst, inl, inr}
use Rattle.std.specs.Prelude.{IsTrue, ◌↔◌}
use Rattle.rtl_model.specs.simulation.Accepted.{IsAccepted}
use Rattle.rtl_net.specs.Core.{core}
use Rattle.rtl_check.specs.declared.judging.Judgement.{Judgement}
use Rattle.rtl_check.specs.Verdicts.{IsJudgement, JudgesLoopsOnce, IfByProcesses, accepts, FromsLeadDown, NoChainIsLonger, NoNumberIsLower}
use Rattle.rtl_check.proofs.Verdicts.{no_loops_in}
use Rattle.rtl_check.proofs.checking.check.Goals as goal

pub returns-in-ByProcesses-clause-verdict : goal.returns-in-ByProcesses-clause-verdict
returns-in-ByProcesses-clause-verdict c = subst (IsJudgement (core c.args.net.now)) c.in-ByProcesses.is c.in_ok-report.ensures.judgement

pub returns-in-ByProcesses-clause-yes : goal.returns-in-ByProcesses-clause-yes
returns-in-ByProcesses-clause-yes c =
    let (accepted, report) = subst (IsJudgement (core c.args.net.now)) c.in-ByProcesses.is c.in_ok-report.ensures.judgement in
    (λ e. (accepted, report.rest.by_processes), λ a. refl)

pub returns-in-ByProcesses-clause-leads_down : goal.returns-in-ByProcesses-clause-leads_down
returns-in-ByProcesses-clause-leads_down c = subst (IfByProcesses (FromsLeadDown (core c.args.net.now))) c.in-ByProcesses.is c.in_ok-report.ensures.leads_down

pub returns-in-ByProcesses-clause-longest : goal.returns-in-ByProcesses-clause-longest
returns-in-ByProcesses-clause-longest c = subst (IfByProcesses (NoChainIsLonger (core c.args.net.now))) c.in-ByProcesses.is c.in_ok-report.ensures.longest

pub returns-in-ByProcesses-clause-lowest : goal.returns-in-ByProcesses-clause-lowest
returns-in-ByProcesses-clause-lowest c = subst (IfByProcesses (NoNumberIsLower (core c.args.net.now))) c.in-ByProcesses.is c.in_ok-report.ensures.lowest

pub returns-in-ByNets-clause-verdict : goal.returns-in-ByNets-clause-verdict
returns-in-ByNets-clause-verdict c =
    let (accepted, report) = subst (IsJudgement (core c.args.net.now)) c.in-ByNets.is c.in_ok-report.ensures.judgement in
    inr (c.new.ensures.items, accepted, report.by_nets)

pub returns-in-ByNets-clause-yes : goal.returns-in-ByNets-clause-yes
returns-in-ByNets-clause-yes c =
    let (accepted, report) = subst (IsJudgement (core c.args.net.now)) c.in-ByNets.is c.in_ok-report.ensures.judgement in
    (λ e. absurd cc, λ (a, none). absurd (none report.by_nets))

pub returns-in-ByNets-clause-once : goal.returns-in-ByNets-clause-once
returns-in-ByNets-clause-once c = no_loops_in c.new.result.items c.new.ensures.items

pub returns-clause-verdict : goal.returns-clause-verdict
returns-clause-verdict c = inl (subst (IsJudgement (core c.args.net.now)) c.in-Faulty.is c.in_ok-report.ensures.judgement)

pub returns-clause-yes : goal.returns-clause-yes
returns-clause-yes c = (λ e. absurd cc, λ (accepted, none). (let t : false ≡ true = refused.1 accepted in absurd cc))
  where
    refused : IsTrue false ↔ IsAccepted (core c.args.net.now)
    refused = subst (λ (j : Judgement). IsTrue (accepts j) ↔ IsAccepted (core c.args.net.now)) c.in-Faulty.is c.in_ok-report.ensures.accepts

pub returns-clause-once : goal.returns-clause-once
returns-clause-once c = subst JudgesLoopsOnce c.in-Faulty.is c.in_ok-report.ensures.once
