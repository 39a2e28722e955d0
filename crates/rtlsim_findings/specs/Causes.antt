-- What faults have in common that are told together: the rule, the lines that declare their processes, of a latch the
-- statement that leaves the assignment out, and what makes a process neither clocked nor combinational. So a fault that
-- each instance of an entity has is told once.
use Rattle.std.specs.Prelude.{ℕ, ◌==◌, ◌&&◌, Bool, true, false, List, [], ◌∷◌, slice_get, Option, Some, None, option_map}
use Rattle.rtl_model.specs.simulation.Accepted.{Fault}
use Rattle.rtl_net.specs.Nets.{NetlistView}
use Rattle.rtl_net.specs.declared.process.Process.{Process}
use Rattle.rtl_mixed_reasons.specs.Notes.{number_of}
use Rattle.rtl_mixed_reasons.specs.declared.reason.Reason.{Reason}
use Rattle.fault_rules.specs.Rules.{words_of}
use Rattle.fault_rules.specs.declared.report.Place.{Place}
use Rattle.fault_rules.specs.declared.report.Place.TheVariants as place
use Rattle.fault_rules.specs.declared.report.Subject.{Subject}
use Rattle.fault_rules.specs.declared.report.Subject.TheVariants.{Sources}
use Rattle.rtlsim_findings.specs.Mixed.{why}
use Rattle.rtlsim_findings.specs.Omitted.{left_out, are_same}
use Rattle.rtlsim_findings.specs.declared.cause.Cause.{Cause}
use Rattle.rtlsim_findings.specs.declared.cause.Obstacle.{Obstacle}
use Rattle.rtlsim_listing.specs.DotText.{driver_in}
use Rattle.rtlsim_listing.specs.Reports.{CircleView, Processes, Nets, circle_of, report_of}

-- ---- processes

-- the process at whose place it is told
abbrev pub process_at : Place → Option ℕ
process_at (place.Process process) = Some process
process_at _ = None

abbrev pub first_process : Fault → Option ℕ
first_process fault = process_at (report_of fault).place

-- the process at whose place a fault is told: of a loop of nets the one that drives the first
abbrev pub first_driver : NetlistView → List ℕ → Option ℕ
first_driver net [] = None
first_driver net (n ∷ nets) = driver_in net n

abbrev pub told_in : NetlistView → (first : Option ℕ) → CircleView → Option ℕ
told_in net first (Processes processes) = first
told_in net first (Nets nets) = first_driver net nets

abbrev pub told_at : NetlistView → Fault → Option ℕ
told_at net fault = told_in net (first_process fault) (circle_of fault)

abbrev pub second_of : Subject → Option ℕ
second_of (Sources n first second) = second
second_of _ = None

-- of two drivers the process of the second
abbrev pub second_process : Fault → Option ℕ
second_process fault = second_of (report_of fault).subject

abbrev pub is_same_number : Option ℕ → Option ℕ → Bool
is_same_number None None = true
is_same_number (Some a) (Some b) = a == b
is_same_number _ _ = false

-- both are told of the same processes
abbrev pub is_of : (before fault : Fault) → Bool
is_of before fault =
    is_same_number (first_process before) (first_process fault)
    && is_same_number (second_process before) (second_process fault)

-- ---- causes

abbrev pub declared_at : Option Process → Option ℕ
declared_at None = None
declared_at (Some process) = Some process.at

-- the byte of the source at which a process is declared
abbrev pub at_process : NetlistView → Option ℕ → Option ℕ
at_process net None = None
at_process net (Some process) = declared_at (slice_get net.processes process)

-- of a reason its kind and its place: the nets and processes that it names are an instance's own
abbrev pub obstacle_of : Reason → Obstacle
obstacle_of reason = record { kind = number_of reason.kind; at = reason.at }

abbrev pub is_same_obstacle : Option Obstacle → Option Obstacle → Bool
is_same_obstacle None None = true
is_same_obstacle (Some a) (Some b) = (a.kind == b.kind) && (a.at == b.at)
is_same_obstacle _ _ = false

abbrev pub cause_of : NetlistView → Fault → Cause
cause_of net fault = record {
  number = (words_of (report_of fault).rule).number;
  first = at_process net (told_at net fault);
  second = at_process net (second_process fault);
  omission = left_out net fault;
  obstacle = option_map obstacle_of (why net fault);
}

abbrev pub is_same : (before cause : Cause) → Bool
is_same before cause =
    before.number == cause.number && is_same_number before.first cause.first
    && is_same_number before.second cause.second
    && are_same before.omission cause.omission && is_same_obstacle before.obstacle cause.obstacle
