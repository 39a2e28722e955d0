-- What an accepted netlist's processes and nets keep to, by what is kept of each of them.
use Rattle.std.specs.Prelude.{◌≡◌, ℕ, ◌<◌, ◌≤◌, Bool, true, false, ◌&&◌, ⊤, List, length, map}
use Rattle.rtl_model.specs.bodies.Body.{Stmts}
use Rattle.rtl_model.specs.bodies.Assigns.{must_assign}
use Rattle.rtl_model.specs.bodies.Stored.{stores_element}
use Rattle.rtl_model.specs.simulation.Netlist.{Netlist, Edge, Source}
use Rattle.rtl_model.specs.simulation.Accepted.{IsFault, TwoDrivers, StoredVariable}
use Rattle.rtl_net.specs.declared.process.Process.{Process}
use Rattle.rtl_net.specs.declared.process.Variable.{Variable}
use Rattle.rtl_net.specs.Nets.{body_of}
use Rattle.rtl_body_facts.specs.declared.kinds.Clocking.{Clocking}
use Rattle.rtl_body_facts.specs.declared.kinds.ProcessKind.{ProcessKind}
use Rattle.rtl_body_facts.specs.declared.kinds.ProcessKind.TheVariants as k
use Rattle.rtl_body_facts.specs.Reading.{is_in}
use Rattle.rtl_body_facts.specs.Paths.{driven, to_net}
use Rattle.rtl_check.specs.declared.reporting.NetReport.{NetReport}
use Rattle.rtl_check.specs.declared.rule.Rule.{Rule}
use Rattle.rtl_process_kinds.specs.KindViews.{nets_tested}
use Rattle.rtl_check.specs.Rules.{is_data, fault_of}

-- ---- lists of nets

abbrev pub clock_nets : List (ℕ × Edge) → List ℕ
clock_nets clocks = map (λ (x : ℕ × Edge). x.0) clocks

-- each of some nets is one of others
abbrev pub AreWithin : (nets others : List ℕ) → Type 0
AreWithin nets others = (n : ℕ) → is_in n nets ≡ true → is_in n others ≡ true

-- ---- a process by itself

-- it reads no clock but in the tests of its edges
abbrev pub HasNoClockAsData : (clocks : List ℕ) → Process → Clocking → Type 0
HasNoClockAsData clocks p c = (n : ℕ) → is_in n p.reads.items ≡ true → (is_in n clocks && is_data c n) ≡ false

-- its clock is an input, it is sensitive to what its tests look at, and it reads no clock elsewhere
pub record ClockedKeeps (inputs clocks : List ℕ) (p : Process) (c : Clocking) : Type 0 where
  pub clock : is_in c.clock inputs ≡ true
  pub awake : AreWithin (nets_tested c) p.wakes.items
  pub no_clock_read : HasNoClockAsData clocks p c

-- it assigns each net that it drives on every syntactic path
abbrev pub HasNoLatch : Process → Type 0
HasNoLatch p =
    (n : ℕ) → is_in n (driven p.drives.items) ≡ true → must_assign (to_net p.drives.items n) (body_of p) ≡ true

-- it is sensitive to what it reads, and has no latch
pub record CombinationalKeeps (p : Process) : Type 0 where
  pub awake : AreWithin p.reads.items p.wakes.items
  pub assigns : HasNoLatch p

abbrev pub KeepsBy : (inputs clocks : List ℕ) → Process → ProcessKind → Type 0
KeepsBy inputs clocks p k.Combinational = CombinationalKeeps p
KeepsBy inputs clocks p (k.Clocked c) = ClockedKeeps inputs clocks p c
KeepsBy inputs clocks p k.Mixed = ⊤

abbrev pub is_plain : ProcessKind → Bool
is_plain k.Combinational = true
is_plain (k.Clocked c) = true
is_plain k.Mixed = false

-- a vector has 64 elements at most
abbrev pub HasFew : Variable → Type 0
HasFew v = length v.starts.items ≤ 64

-- it stores none of so many variable elements
abbrev pub StoresNone : Stmts → (elements : ℕ) → Type 0
StoresNone body elements = (e : ℕ) → e < elements → stores_element e body ≡ false

-- ---- parts of a netlist

-- a net has no two sources
abbrev pub HasOneSource : Netlist → (n : ℕ) → Type 0
HasOneSource net n = (first second : Source) → IsFault net (TwoDrivers n first second) → ⊥

abbrev pub HaveOneSource : Netlist → Type 0
HaveOneSource net = (n : ℕ) → HasOneSource net n

-- process p breaks no rule, and stores no variable
abbrev pub KeepsRules : Netlist → (p : ℕ) → Type 0
KeepsRules net p = (rule : Rule) (n : ℕ) → IsFault net (fault_of rule p n) → ⊥

abbrev pub StoresNothing : Netlist → (p : ℕ) → Type 0
StoresNothing net p = (variable place : ℕ) → IsFault net (StoredVariable p variable place) → ⊥

abbrev pub AllKeep : Netlist → Type 0
AllKeep net = (p : ℕ) → KeepsRules net p × StoresNothing net p

-- ---- reports by nets

-- they have the same levels, froms, nets, looks, clocks and bound
pub record SayTheSame (one other : NetReport) : Type 0 where
  pub levels : one.levels.items ≡ other.levels.items
  pub from : one.from.items ≡ other.from.items
  pub nets : one.nets.items ≡ other.nets.items
  pub looks : one.looks.items ≡ other.looks.items
  pub clocks : one.clocks.items ≡ other.clocks.items
  pub bound : one.bound ≡ other.bound
