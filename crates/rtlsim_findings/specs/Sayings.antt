-- What a finding says: its sentence, with the processes and nets of its first fault, the other instances that have it,
-- and the note that stands beside it.
use Rattle.std.specs.Prelude.{ℕ, ◌||◌, Bool, true, false, if◌then◌else◌, List, [], ◌∷◌, ◌++◌, bytes_eq, nat_lt, flat_map, map, Option, Some, None, codes}
use Rattle.rtl_latches.specs.Omissions as omissions
use Rattle.rtl_latches.specs.declared.omission.Omission.{Omission}
use Rattle.rtl_model.specs.simulation.Accepted.{Fault, Latch}
use Rattle.rtl_net.specs.Names.{net_name, process_name}
use Rattle.rtl_net.specs.Nets.{NetlistView}
use Rattle.rtl_mixed_reasons.specs.Notes.{number_of}
use Rattle.rtl_mixed_reasons.specs.declared.reason.Reason.{Reason}
use denote.Bor.{Bor}
use Rattle.fault_rules.specs.Rules.{Text}
use Rattle.fault_rules.specs.declared.report.Subject.{Subject}
use Rattle.fault_rules.specs.declared.report.Subject.TheVariants.{Sources, ProcessNet, Element, Net, Process as Process', Circle}
use Rattle.fault_rules.specs.declared.words.Words.{Words}
use Rattle.rtlsim_findings.specs.Causes.{is_of, second_process}
use Rattle.rtlsim_circles.specs.Circles.{circle_text}
use Rattle.rtlsim_findings.specs.Findings.{FindingView}
use Rattle.rtlsim_findings.specs.Mixed.{reason_text}
use Rattle.rtlsim_findings.specs.Omitted.{said}
use Rattle.rtlsim_findings.specs.Once.{each_new}
use Rattle.rtlsim_findings.specs.Ranges.{follows, range_text}
use Rattle.rtlsim_findings.specs.declared.cause.Obstacle.{Obstacle}
use Rattle.rtlsim_findings.specs.declared.saying.TheConstants.{UNSTEADY_RESET}
use Rattle.rtlsim_listing.specs.CheckText.{source_name, variable_name}
use Rattle.rtlsim_listing.specs.Reports.{CircleView, Processes, Nets, report_of, circle_of, words_for}

-- ---- nets

-- the net, or the element of a variable
abbrev pub name_of : NetlistView → Subject → List ℕ
name_of net (Sources n first second) = net_name net n
name_of net (ProcessNet process n) = net_name net n
name_of net (Net n) = net_name net n
name_of net (Element process variable place) = variable_name net process variable place
name_of net _ = []

abbrev pub name : NetlistView → Fault → List ℕ
name net fault = name_of net (report_of fault).subject

-- the name, where the fault is told of the first one's processes
abbrev pub own_name : NetlistView → (first : Fault) → Fault → List (List ℕ)
own_name net first fault = if is_of first fault then name net fault ∷ [] else []

abbrev pub is_beside : (before name : List ℕ) → Bool
is_beside before name = bytes_eq before name || follows before name

-- the range that ends before a name
abbrev pub ended : (first last name : List ℕ) → List (List ℕ)
ended first last name = if is_beside last name then [] else range_text first last ∷ []

-- with which name the range begins in which a name is
abbrev pub begun_by : (first last name : List ℕ) → List ℕ
begun_by first last name = if is_beside last name then first else name

-- names that stand side by side as ranges, from the range that begins with the first name
abbrev pub ranges_from : (first last : List ℕ) → List (List ℕ) → List (List ℕ)
ranges_from first last [] = range_text first last ∷ []
ranges_from first last (name ∷ names) = ended first last name ++ ranges_from (begun_by first last name) name names

-- its nets or elements of variables: that of its first fault, and those of the others of the same processes
abbrev pub ranges_of : NetlistView → FindingView → List (List ℕ)
ranges_of net f = ranges_from (name net f.first) (name net f.first) (flat_map (own_name net f.first) f.others)

-- the same of all instances, each once
abbrev pub all_ranges_of : NetlistView → FindingView → List (List ℕ)
all_ranges_of net f =
    ranges_from (name net f.first) (name net f.first)
    (each_new bytes_eq (name net f.first ∷ []) (map (name net) f.others))

-- ---- the sentence

-- the processes that it is told of, and idle ports by that word; of a circle the nets too, or these alone
abbrev pub culprits_of : NetlistView → (circle : CircleView) → Subject → List ℕ
culprits_of net circle (Sources n first second) = source_name net first ++ codes " and " ++ source_name net second
culprits_of net circle (ProcessNet process n) = process_name net process
culprits_of net circle (Process' process) = process_name net process
culprits_of net circle (Element process variable place) = process_name net process
culprits_of net circle Circle = circle_text net circle
culprits_of net circle _ = []

abbrev pub culprits : NetlistView → Fault → List ℕ
culprits net fault = culprits_of net (circle_of fault) (report_of fault).subject

-- behind a comma
abbrev pub another : List ℕ → List ℕ
another text = codes ", " ++ text

abbrev pub listed : List (List ℕ) → List ℕ
listed [] = []
listed (text ∷ texts) = text ++ flat_map another texts

abbrev pub sentence : Words Text → (culprits nets : List ℕ) → List ℕ
sentence words culprits nets = words.opening.now ++ culprits ++ words.middle.now ++ nets ++ words.closing.now

-- the same of the code's words
abbrev pub said_by : Words (Bor (List ℕ)) → (culprits nets : List ℕ) → List ℕ
said_by words culprits nets = words.opening.now ++ culprits ++ words.middle.now ++ nets ++ words.closing.now

-- from 17 on reasons are of resets that aren't calm
abbrev pub is_unsteady : Option Reason → Bool
is_unsteady None = false
is_unsteady (Some reason) = nat_lt 16 (number_of reason.kind)

-- its process is a register then, so that other words are true of it than its rule's
abbrev pub words_in : FindingView → Words Text
words_in f = if is_unsteady f.reason then UNSTEADY_RESET else words_for f.first

abbrev pub message : NetlistView → FindingView → List ℕ
message net f = sentence (words_in f) (culprits net f.first) (listed (ranges_of net f))

-- ---- the other instances

-- of the faults those of which none before in the finding is told of the same processes, in order, the first left out
abbrev pub also : FindingView → List Fault
also f = each_new is_of (f.first ∷ []) f.others

-- ---- all processes

abbrev pub one : ℕ → Option ℕ
one process = Some process

abbrev pub processes_round : CircleView → List (Option ℕ)
processes_round (Processes processes) = map one processes
processes_round (Nets nets) = []

-- two drivers in order, without a process where a port is idle; a circle in order
abbrev pub processes_of : (circle : CircleView) → Subject → List (Option ℕ)
processes_of circle (Sources n first second) = first ∷ second ∷ []
processes_of circle (ProcessNet process n) = Some process ∷ []
processes_of circle (Process' process) = Some process ∷ []
processes_of circle (Element process variable place) = Some process ∷ []
processes_of circle Circle = processes_round circle
processes_of circle _ = []

abbrev pub processes_in : Fault → List (Option ℕ)
processes_in fault = processes_of (circle_of fault) (report_of fault).subject

-- those of the first fault, and those of the other instances
abbrev pub processes : FindingView → List (Option ℕ)
processes f = processes_in f.first ++ flat_map processes_in (also f)

-- ---- the note: at the second driver, where a latch leaves the assignment out, or at the reason of a process that is
-- neither clocked nor combinational. No assignment of a latch's net stands in the expanded body where no turn of a loop
-- has one: the note is then at the process.

abbrev pub is_latch : Fault → Bool
is_latch (Latch process n) = true
is_latch _ = false

abbrev pub start_of : (process : Option ℕ) → (latch : Bool)
    → (second : Option ℕ) → Option Omission → Option Obstacle → Option ℕ
start_of process latch (Some at) omission obstacle = Some at
start_of process latch None (Some omission) obstacle = Some (omissions.at_of omission)
start_of process latch None None (Some obstacle) = Some obstacle.at
start_of process true None None None = process
start_of process false None None None = None

abbrev pub note_at : FindingView → Option ℕ
note_at f = start_of f.cause.first (is_latch f.first) f.cause.second f.cause.omission f.cause.obstacle

abbrev pub unassigned_text : (latch : Bool) → List ℕ
unassigned_text true = codes "no turn of a loop assigns it; a loop runs up by to and down by downto"
unassigned_text false = []

abbrev pub note_of : NetlistView → (latch : Bool) → (second : Option ℕ) → Option Omission → Option Reason → List ℕ
note_of net latch (Some process) omission reason = process_name net process ++ codes " drives it too"
note_of net latch None (Some omission) reason = said omission
note_of net latch None None (Some reason) = reason_text net reason
note_of net latch None None None = unassigned_text latch

abbrev pub note_text : NetlistView → FindingView → List ℕ
note_text net f = note_of net (is_latch f.first) (second_process f.first) f.cause.omission f.reason
