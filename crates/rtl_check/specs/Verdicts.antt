-- What the checker answers: how a netlist is judged, and whether it is accepted by its processes.
use Rattle.std.specs.Prelude.{◌≡◌, ⊤, ℕ, ◌≤◌, ◌⊎◌, Bool, true, false, [], map, slice_index_or, Some, None}
use Rattle.rtl_model.specs.simulation.Netlist.{Netlist, IsCombinational}
use Rattle.rtl_model.specs.simulation.Accepted.{IsAccepted, IsByNets}
use Rattle.rtl_model.specs.simulation.Faults.{AreFaults}
use Rattle.rtl_model.specs.simulation.Levels.{ChainTo, Rises}
use Rattle.rtl_model.specs.simulation.NetLevels.{IsNetReport}
use Rattle.rtl_model.specs.simulation.Report.{IsReport, LeadsDown}
use Rattle.rtl_check.specs.declared.reporting.Report.{Report}
use Rattle.rtl_check.specs.declared.reporting.NetReport.{NetReport}
use Rattle.rtl_check.specs.declared.judging.Judgement.{Judgement}
use Rattle.rtl_check.specs.declared.judging.Judgement.TheVariants.{ByProcesses, ByNets, Faulty}
use Rattle.rtl_check.specs.declared.checking.Verdict.{Verdict}
use Rattle.rtl_check.specs.declared.checking.Verdict.TheVariants.{Yes, No}
use Rattle.rtl_check.specs.Views.{fault_view}
use Rattle.rtl_check.specs.Findings.{AreLoopsOnce}

-- ---- reports

-- the report on the netlist, judged by processes: an accepted netlist has no other
abbrev pub IsReportOf : Netlist → Report → Type 0
IsReportOf net r = IsReport net r.levels.items r.from.items r.clocks.items r.bound

-- the same, judged by nets
abbrev pub IsNetReportOf : Netlist → NetReport → Type 0
IsNetReportOf net r = IsNetReport net r.levels.items r.from.items r.nets.items r.looks.items r.clocks.items r.bound

-- it has this level for the combinational process q
abbrev pub HasLevel : Netlist → Report → (q level : ℕ) → Type 0
HasLevel net r q level = IsCombinational net q × (slice_index_or r.levels.items q None ≡ Some level)

-- following `from` leads from each combinational process down to level 1, through as many processes as its level says
abbrev pub FromsLeadDown : Netlist → Report → Type 0
FromsLeadDown net r = (q level : ℕ) → HasLevel net r q level → LeadsDown net r.from.items q level

-- no chain is longer than the level of the process that it ends with
abbrev pub NoChainIsLonger : Netlist → Report → Type 0
NoChainIsLonger net r = (q level many : ℕ) → HasLevel net r q level → ChainTo net q many → many ≤ level

-- no numbering that rises is lower anywhere
abbrev pub NoNumberIsLower : Netlist → Report → Type 0
NoNumberIsLower net r = (number : ℕ → ℕ) → Rises net number → (q level : ℕ) → HasLevel net r q level → level ≤ number q

-- ---- how a netlist is judged

abbrev pub IsJudgement : Netlist → Judgement → Type 0
-- it is accepted, and this is the report on it
IsJudgement net (ByProcesses report) = IsAccepted net × IsReportOf net report
IsJudgement net (ByNets report) = IsAccepted net × IsNetReportOf net report
-- it has these faults: all but loops, in order, or else one loop
IsJudgement net (Faulty faults) = AreFaults net (map fault_view faults.items)

abbrev pub accepts : Judgement → Bool
accepts (ByProcesses report) = true
accepts (ByNets report) = true
accepts (Faulty faults) = false

abbrev pub JudgesLoopsOnce : Judgement → Type 0
JudgesLoopsOnce (ByProcesses report) = ⊤
JudgesLoopsOnce (ByNets report) = ⊤
JudgesLoopsOnce (Faulty faults) = AreLoopsOnce (map fault_view faults.items)

-- there is no report by processes, or one of which this holds
abbrev pub IfByProcesses : (Holds : Report → Type 0) → Judgement → Type 0
IfByProcesses Holds (ByProcesses report) = Holds report
IfByProcesses Holds (ByNets report) = ⊤
IfByProcesses Holds (Faulty faults) = ⊤

-- ---- whether it is accepted by its processes

abbrev pub IsVerdict : Netlist → Verdict → Type 0
IsVerdict net (Yes report) = IsAccepted net × IsReportOf net report
-- it has these faults; or there are none, where it is accepted by its nets
IsVerdict net (No faults) =
    AreFaults net (map fault_view faults.items) ⊎ ((faults.items ≡ []) × IsAccepted net × IsByNets net)

abbrev pub is_yes : Verdict → Bool
is_yes (Yes report) = true
is_yes (No faults) = false

abbrev pub ListsLoopsOnce : Verdict → Type 0
ListsLoopsOnce (Yes report) = ⊤
ListsLoopsOnce (No faults) = AreLoopsOnce (map fault_view faults.items)

abbrev pub IfYes : (Holds : Report → Type 0) → Verdict → Type 0
IfYes Holds (Yes report) = Holds report
IfYes Holds (No faults) = ⊤
