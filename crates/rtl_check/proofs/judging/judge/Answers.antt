use Rattle.std.proofs.Common.{◌≡◌, ◌∙◌, ◌≤◌, ℕ, Some, sym, subst, map}
use Rattle.rtl_net.specs.Core.{core}
use Rattle.rtl_check.specs.Views.{fault_view}
use Rattle.rtl_check.specs.Findings.{IsFound}
use Rattle.rtl_check.proofs.Verdicts.{refused}
use Rattle.rtl_check.proofs.judging.judge.Goals as goal

pub returns-in-Faulty-clause-judgement : goal.returns-in-Faulty-clause-judgement
returns-in-Faulty-clause-judgement c = (subst (IsFound (core c.args.net.now)) c.in-Faulty.is c.in_ok-faults.ensures).0

pub returns-in-Faulty-clause-accepts : goal.returns-in-Faulty-clause-accepts
returns-in-Faulty-clause-accepts c =
    let net = core c.args.net.now in
    refused net (map fault_view c.in-Faulty.faults.items) (c.faults_are_listed.ensures net) (subst (IsFound net) c.in-Faulty.is c.in_ok-faults.ensures).0

pub returns-in-Faulty-clause-once : goal.returns-in-Faulty-clause-once
returns-in-Faulty-clause-once c = (subst (IsFound (core c.args.net.now)) c.in-Faulty.is c.in_ok-faults.ensures).1

pub returns-clause-judgement : goal.returns-clause-judgement
returns-clause-judgement c = let report = c.in_ok-report-in-NetsLeveled.ensures in (report.accepted, report.report)

pub returns-in-Leveled-clause-judgement : goal.returns-in-Leveled-clause-judgement
returns-in-Leveled-clause-judgement c = let report = c.in_ok-report-in-Leveled.ensures in (report.accepted, report.report)

pub returns-in-Leveled-clause-leads_down : goal.returns-in-Leveled-clause-leads_down
returns-in-Leveled-clause-leads_down c q level has =
    let r = c.in_ok-report-in-Leveled.report in
    c.reports_lead_down.ensures (core c.args.net.now) r.levels.items r.from.items r.clocks.items r.bound c.in_ok-report-in-Leveled.ensures.report q level has.0 has.1

pub returns-in-Leveled-clause-longest : goal.returns-in-Leveled-clause-longest
returns-in-Leveled-clause-longest c q level many has chain =
    let (l, is, longest) = c.in_ok-report-in-Leveled.ensures.report.levels_are.combinational q has.0 in
    let same : l ≡ level = one (sym is ∙ has.1) in
    subst (λ (n : ℕ). many ≤ n) same (longest.longest many chain)
  where
    one : {a b : ℕ} → Some a ≡ Some b → a ≡ b
    one e = cc

pub returns-in-Leveled-clause-lowest : goal.returns-in-Leveled-clause-lowest
returns-in-Leveled-clause-lowest c number rises q level has =
    let net = core c.args.net.now in
    let r = c.in_ok-report-in-Leveled.report in
    let shown = ((c.reports_are_shown.ensures net r.levels.items r.from.items r.clocks.items r.bound).0 c.in_ok-report-in-Leveled.ensures.report).shown in
    ((c.levels_are_shown.ensures net r.levels.items r.from.items shown).0 q level has.0 has.1).1 number rises
