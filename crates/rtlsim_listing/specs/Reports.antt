-- What each fault of the checker tells: the rule that is broken, where its first process is declared, what it is told
-- of, and what is said of it.
use Rattle.std.specs.Prelude.{ℕ, List, [], ◌∷◌, Option, Some, None}
use Rattle.rtl_model.specs.simulation.Accepted as f
use Rattle.rtl_model.specs.simulation.Netlist.{Source, Driver, Idle}
use Rattle.fault_rules.specs.declared.checking.CheckRule.{CheckRule}
use Rattle.fault_rules.specs.declared.checking.CheckRule.TheVariants as rule
use Rattle.fault_rules.specs.declared.report.Place.{Place}
use Rattle.fault_rules.specs.declared.report.Place.TheVariants as place
use Rattle.fault_rules.specs.declared.report.Report.{Report}
use Rattle.fault_rules.specs.declared.report.Rule.TheVariants.{Check}
use Rattle.fault_rules.specs.declared.report.Subject.{Subject}
use Rattle.fault_rules.specs.declared.report.Subject.TheVariants as subject
use Rattle.fault_rules.specs.declared.words.Words.{Words}
use Rattle.fault_rules.specs.Rules.{Text, words_of}
use Rattle.rtlsim_listing.specs.declared.report.Circle as code
use Rattle.rtlsim_listing.specs.declared.report.Circle.TheVariants as circle
use Rattle.rtlsim_listing.specs.declared.report.TheConstants.{NET_LOOP}

-- the process of a driver; an idle port has none
abbrev pub process_of : Source → Option ℕ
process_of (Driver process place) = Some process
process_of (Idle value) = None

abbrev pub place_of : Option ℕ → Place
place_of None = place.Nowhere
place_of (Some process) = place.Process process

abbrev pub told : CheckRule → (first : Option ℕ) → Subject → Report
told r first s = record { rule = Check r; place = place_of first; subject = s }

-- of a process and a net
abbrev pub at_net : CheckRule → (process net : ℕ) → Report
at_net r process net = told r (Some process) (subject.ProcessNet process net)

-- the first process of a circle
abbrev pub first_of : List ℕ → Option ℕ
first_of [] = None
first_of (process ∷ processes) = Some process

abbrev pub report_of : f.Fault → Report
report_of (f.TwoDrivers net first second) =
    told rule.TwoDrivers (process_of first) (subject.Sources net (process_of first) (process_of second))
report_of (f.MixedProcess process) = told rule.Mixed (Some process) (subject.Process process)
report_of (f.ClockNotInput process net) = at_net rule.ClockNotInput process net
report_of (f.EdgeNotSensitive process net) = at_net rule.EdgeNotSensitive process net
report_of (f.ClockAsData process net) = at_net rule.ClockAsData process net
report_of (f.MissingSensitivity process net) = at_net rule.MissingSensitivity process net
report_of (f.Latch process net) = at_net rule.Latch process net
report_of (f.Loop processes) = told rule.Loop (first_of processes) subject.Circle
report_of (f.NetLoop nets) = told rule.Loop None subject.Circle
report_of (f.StoredVariable process variable place) =
    told rule.StoredVariable (Some process) (subject.Element process variable place)

-- ---- circles

pub data CircleView : Type 0 where
  Processes : List ℕ → CircleView
  Nets : List ℕ → CircleView

abbrev pub circle_view : code.Circle → CircleView
circle_view (circle.Processes processes) = Processes processes.now
circle_view (circle.Nets nets) = Nets nets.now

-- the circle that it is told of, if it is told of one
abbrev pub circle_of : f.Fault → CircleView
circle_of (f.Loop processes) = Processes processes
circle_of (f.NetLoop nets) = Nets nets
circle_of _ = Processes []

-- ---- what is said of it: of a loop of nets other words than the rule's

abbrev pub words_for : f.Fault → Words Text
words_for (f.NetLoop nets) = NET_LOOP
words_for fault = words_of (report_of fault).rule
