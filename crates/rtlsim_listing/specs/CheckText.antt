-- What is printed of the checker's judgement of a netlist: yes, with the greatest level, the bound and a line for each
-- process with a level; or no, with a line for each fault. A number that the netlist doesn't have has no name, and
-- nothing is printed in its place.
use Rattle.std.specs.Prelude.{ℕ, Bool, true, false, nat_lt, if◌then◌else◌, max, List, [], ◌∷◌, ◌++◌, length, flat_map, slice_get, slice_index_or, Option, Some, None, codes, decimal}
use Rattle.std.specs.Option.{unwrap_or}
use Rattle.rtl_model.specs.simulation.Accepted.{Fault}
use Rattle.rtl_net.specs.declared.process.Process.{Process}
use Rattle.rtl_net.specs.declared.process.Variable.{Variable}
use Rattle.rtl_net.specs.Nets.{NetlistView}
use Rattle.rtl_net.specs.Names.{net_name, process_name, index_suffix}
use Rattle.rtl_check.specs.declared.fault.CheckFault.{CheckFault}
use Rattle.rtl_check.specs.declared.judging.Judgement.{Judgement}
use Rattle.rtl_check.specs.declared.judging.Judgement.TheVariants.{ByProcesses, ByNets, Faulty}
use Rattle.rtl_check.specs.declared.reporting.Report.{Report}
use Rattle.rtl_check.specs.declared.reporting.NetReport.{NetReport}
use Rattle.rtl_check.specs.Views.{fault_view}
use Rattle.fault_rules.specs.Rules.{Text, words_of}
use Rattle.fault_rules.specs.declared.report.Subject.{Subject}
use Rattle.fault_rules.specs.declared.report.Subject.TheVariants.{Sources, ProcessNet, Element, Process as Process', Circle}
use Rattle.fault_rules.specs.declared.words.Words.{Words}
use Rattle.rtlsim_listing.specs.NetText.{lines}
use Rattle.rtlsim_listing.specs.declared.levels.Shown as code
use Rattle.rtlsim_listing.specs.Reports.{CircleView, Processes, Nets, report_of, circle_of}

-- ---- yes

-- the greatest of the levels that there are, 0 without any
abbrev pub greatest_level : List (Option ℕ) → ℕ
greatest_level [] = 0
greatest_level (level ∷ levels) = max (unwrap_or level 0) (greatest_level levels)

-- what a netlist is judged by: a level comes from a process below, or from a net
abbrev pub origin_name : NetlistView → (by_nets : Bool) → (number : ℕ) → List ℕ
origin_name net by_nets number = if by_nets then net_name net number else process_name net number

-- what a level comes from
abbrev pub from_text : NetlistView → (by_nets : Bool) → Option ℕ → List ℕ
from_text net by_nets None = []
from_text net by_nets (Some number) = codes " from " ++ origin_name net by_nets number

abbrev pub level_of : NetlistView → (p level : ℕ) → (behind : List ℕ) → List ℕ
level_of net p level behind =
    codes "level " ++ decimal level ++ codes " " ++ process_name net p ++ behind ++ codes "\n"

-- a process without a level has no line
abbrev pub level_text : NetlistView → (p : ℕ) → (level : Option ℕ) → (behind : List ℕ) → List ℕ
level_text net p None behind = []
level_text net p (Some level) behind = level_of net p level behind

-- what is printed of a report
pub record Shown : Type 0 where
  pub by_nets : Bool
  pub levels : List (Option ℕ)
  pub from : List (Option ℕ)
  pub bound : ℕ

abbrev pub shown_view : code.Shown → Shown
shown_view s = record { by_nets = s.by_nets; levels = s.levels.now; from = s.from.now; bound = s.bound }

abbrev pub of_processes : Report → Shown
of_processes r = record { by_nets = false; levels = r.levels.items; from = r.from.items; bound = r.bound }

abbrev pub of_nets : NetReport → Shown
of_nets r = record { by_nets = true; levels = r.levels.items; from = r.from.items; bound = r.bound }

abbrev pub level_line : NetlistView → Shown → (p : ℕ) → List ℕ
level_line net shown p =
    level_text net p (slice_index_or shown.levels p None)
    (from_text net shown.by_nets (slice_index_or shown.from p None))

abbrev pub bounds_text : (levels bound : ℕ) → List ℕ
bounds_text levels bound = codes "yes\nlevels " ++ decimal levels ++ codes "\nbound " ++ decimal bound ++ codes "\n"

abbrev pub report_text : NetlistView → Shown → List ℕ
report_text net shown =
    bounds_text (greatest_level shown.levels) shown.bound ++ lines (level_line net shown) (length shown.levels)

-- ---- no

-- the process whose driver a source is; an idle port by that word
abbrev pub source_name : NetlistView → Option ℕ → List ℕ
source_name net None = codes "idle"
source_name net (Some process) = process_name net process

-- a process of a loop, and a net of one
abbrev pub member_text : NetlistView → (process : ℕ) → List ℕ
member_text net process = codes " " ++ process_name net process

abbrev pub link_text : NetlistView → (n : ℕ) → List ℕ
link_text net n = codes " " ++ net_name net n

abbrev pub circle_text : NetlistView → CircleView → List ℕ
circle_text net (Processes processes) = flat_map (member_text net) processes
circle_text net (Nets nets) = codes " nets" ++ flat_map (link_text net) nets

-- the name of a variable, with the index of its element at this place where it is a vector or an integer
abbrev pub element_name : (place : ℕ) → Option Variable → List ℕ
element_name place None = []
element_name place (Some v) =
    v.name.items ++ (if nat_lt place (length v.starts.items) then index_suffix v.kind place else [])

abbrev pub variable_of : (variable : ℕ) → Option Process → Option Variable
variable_of variable None = None
variable_of variable (Some p) = slice_get p.variables.items variable

abbrev pub variable_name : NetlistView → (process variable place : ℕ) → List ℕ
variable_name net process variable place = element_name place (variable_of variable (slice_get net.processes process))

-- "fault 7 Latch"
abbrev pub title_text : Words Text → List ℕ
title_text words = words.layer.now ++ codes " " ++ decimal words.number ++ codes " " ++ words.name.now

-- a net and two sources of it
abbrev pub sources_text : NetlistView → (n : ℕ) → (first second : Option ℕ) → List ℕ
sources_text net n first second =
    codes " net " ++ net_name net n ++ codes " by " ++ source_name net first ++ codes " and " ++ source_name net second

-- what the fault is told of, by its shape
abbrev pub subject_text : NetlistView → (circle : CircleView) → Subject → List ℕ
subject_text net circle (Sources n first second) = sources_text net n first second
subject_text net circle (ProcessNet process n) =
    codes " " ++ process_name net process ++ codes " net " ++ net_name net n
subject_text net circle (Element process variable place) =
    codes " " ++ process_name net process ++ codes " variable " ++ variable_name net process variable place
subject_text net circle (Process' process) = codes " " ++ process_name net process
subject_text net circle Circle = circle_text net circle
-- the checker tells of nothing else
subject_text net circle _ = []

abbrev pub line_of : NetlistView → Fault → List ℕ
line_of net fault =
    title_text (words_of (report_of fault).rule)
    ++ subject_text net (circle_of fault) (report_of fault).subject ++ codes "\n"

abbrev pub fault_line : NetlistView → CheckFault → List ℕ
fault_line net fault = line_of net (fault_view fault)

abbrev pub rejection_text : NetlistView → List CheckFault → List ℕ
rejection_text net faults = codes "no\n" ++ flat_map (fault_line net) faults

-- ---- the judgement

abbrev pub check_text : NetlistView → Judgement → List ℕ
check_text net (ByProcesses report) = report_text net (of_processes report)
check_text net (ByNets report) = report_text net (of_nets report)
check_text net (Faulty faults) = rejection_text net faults.items
