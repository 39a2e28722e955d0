-- Faults that name a process and a net: whether a net of a process breaks a rule, by what is kept of the process.
use Rattle.std.specs.Prelude.{◌≡◌, ◌++◌, map, ℕ, Bool, true, false, not, ◌&&◌, ◌||◌, ◌==◌, List, [], ◌∷◌}
use Rattle.std.specs.Option.{option_to_list}
use Rattle.rtl_model.specs.bodies.Assigns.{must_assign}
use Rattle.rtl_model.specs.simulation.Accepted as f
use Rattle.rtl_model.specs.simulation.Faults.{fault_number}
use Rattle.rtl_net.specs.declared.process.Process.{Process}
use Rattle.rtl_net.specs.Nets.{body_of}
use Rattle.rtl_body_facts.specs.declared.kinds.Clocking.{Clocking}
use Rattle.rtl_body_facts.specs.declared.kinds.ProcessKind.{ProcessKind}
use Rattle.rtl_body_facts.specs.declared.kinds.ProcessKind.TheVariants as k
use Rattle.rtl_body_facts.specs.Reading.{is_in}
use Rattle.rtl_body_facts.specs.Paths.{driven, to_net}
use Rattle.rtl_check.specs.declared.fault.CheckFault.{CheckFault}
use Rattle.rtl_check.specs.Views.{fault_view}
use Rattle.rtl_process_kinds.specs.KindViews.{nets_tested}
use Rattle.rtl_check.specs.declared.rule.Rule.{Rule}
use Rattle.rtl_check.specs.declared.rule.Rule.TheVariants.{ClockNotInput, EdgeNotSensitive, ClockAsData, MissingSensitivity, Latch}

abbrev pub fault_of : Rule → (process net : ℕ) → f.Fault
fault_of ClockNotInput process net = f.ClockNotInput process net
fault_of EdgeNotSensitive process net = f.EdgeNotSensitive process net
fault_of ClockAsData process net = f.ClockAsData process net
fault_of MissingSensitivity process net = f.MissingSensitivity process net
fault_of Latch process net = f.Latch process net

-- the number of its faults
abbrev pub rule_number : Rule → ℕ
rule_number rule = fault_number (fault_of rule 0 0)

-- a net that it reads is read by the branch under its edge, or is its reset
abbrev pub is_data : Clocking → (net : ℕ) → Bool
is_data c net = not (net == c.clock) || (c.reads_clock || is_in net (option_to_list c.reset))

abbrev pub clocked_breaks : (inputs clocks : List ℕ) → Process → Clocking → Rule → (net : ℕ) → Bool
clocked_breaks inputs clocks p c ClockNotInput n = is_in n (c.clock ∷ []) && not (is_in n inputs)
clocked_breaks inputs clocks p c EdgeNotSensitive n = is_in n (nets_tested c) && not (is_in n p.wakes.items)
clocked_breaks inputs clocks p c ClockAsData n = is_in n p.reads.items && (is_in n clocks && is_data c n)
clocked_breaks inputs clocks p c MissingSensitivity n = false
clocked_breaks inputs clocks p c Latch n = false

abbrev pub combinational_breaks : Process → Rule → (net : ℕ) → Bool
combinational_breaks p ClockNotInput n = false
combinational_breaks p EdgeNotSensitive n = false
combinational_breaks p ClockAsData n = false
combinational_breaks p MissingSensitivity n = is_in n p.reads.items && not (is_in n p.wakes.items)
combinational_breaks p Latch n =
    is_in n (driven p.drives.items) && not (must_assign (to_net p.drives.items n) (body_of p))

abbrev pub breaks : (inputs clocks : List ℕ) → Process → ProcessKind → Rule → (net : ℕ) → Bool
breaks inputs clocks p k.Combinational rule n = combinational_breaks p rule n
breaks inputs clocks p (k.Clocked c) rule n = clocked_breaks inputs clocks p c rule n
breaks inputs clocks p k.Mixed rule n = false

-- ---- lists

-- the faults of a process and these nets are appended
pub record Pushes (rule : Rule) (process : ℕ) (nets : List ℕ) (old new : List CheckFault) : Type 0 where
  pub added : List CheckFault
  pub is : new ≡ old ++ added
  pub are : map fault_view added ≡ map (fault_of rule process) nets

abbrev pub is_mixed : ProcessKind → Bool
is_mixed k.Combinational = false
is_mixed (k.Clocked c) = false
is_mixed k.Mixed = true

-- a process of this kind is clocked by a net
abbrev pub has_clock : (net : ℕ) → ProcessKind → Bool
has_clock net k.Combinational = false
has_clock net (k.Clocked c) = c.clock == net
has_clock net k.Mixed = false
