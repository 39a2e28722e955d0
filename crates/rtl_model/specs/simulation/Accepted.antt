-- When a netlist is accepted: the nine faults.
use Rattle.std.specs.Prelude.{◌≡◌, ℕ, ◌⊎◌, false, ◌==◌, List, ◌∷◌, Contains, IsSome, IsTrue}
use Rattle.rtl_model.specs.basics.Chains.{IsCircle}
use Rattle.rtl_model.specs.simulation.Netlist.{Netlist, Source, Reset, Mixed, process}
use Rattle.rtl_model.specs.simulation.Netlist.{reset_of, reset_entry, sources_of, target, HasPlace, HasReset, IsDriven, IsInput, IsCombinational}
pub use Rattle.rtl_model.specs.simulation.Netlist.{IsClockOf, IsClock}
use Rattle.rtl_model.specs.simulation.Calm.{IsCalm}

-- n is the net of process p's reset
abbrev pub IsResetOf : Netlist → (p n : ℕ) → Type 0
IsResetOf net p n = (reset : Reset) × HasReset net p reset × (reset.net ≡ n)

-- In the wider language p's reset, which is no clock, may come and go within a moment. (Otherwise it is an input.)
pub record HasUnsteadyReset (net : Netlist) (p : ℕ) : Type 0 where
  pub is_wide : IsTrue net.wide
  pub reset : Reset
  pub is_reset : HasReset net p reset
  pub no_clock : IsClock net reset.net → ⊥
  pub not_calm : IsCalm net reset.net (λ value. value == reset.value) → ⊥

-- q is sensitive to a net that p drives, both being combinational
pub record Feeds (net : Netlist) (p q : ℕ) : Type 0 where
  pub feeder : IsCombinational net p
  pub fed : IsCombinational net q
  pub place : ℕ
  pub drives : HasPlace net p place
  pub wakes : Contains (process net q).wakes (target net p place)

-- a loop: each process is sensitive to a net that the next drives, the last to one that the first drives
abbrev pub IsLoop : Netlist → List ℕ → Type 0
IsLoop net processes = IsCircle (Feeds net) processes

abbrev pub HasNoLoop : Netlist → Type 0
HasNoLoop net = (processes : List ℕ) → IsLoop net processes → ⊥

-- n is the net of process p's reset, and is made inside: some process drives it
abbrev pub IsInnerReset : Netlist → (p n : ℕ) → Type 0
IsInnerReset net p n = IsResetOf net p n × IsDriven net n

-- the driver at this place of p is reset by n, which is made inside (one that the reset's branch leaves out isn't)
abbrev pub IsResetBy : Netlist → (p place n : ℕ) → Type 0
IsResetBy net p place n = IsInnerReset net p n × IsSome (reset_entry (reset_of net p) place)

-- n looks at m: a combinational process drives n by an entry that looks at m, or n is a register that is reset by m,
-- which is made inside
pub record LooksAt (net : Netlist) (n m : ℕ) : Type 0 where
  pub driver : ℕ
  pub place : ℕ
  pub drives : HasPlace net driver place
  pub net_is : target net driver place ≡ n
  pub looks : (IsCombinational net driver × Contains ((process net driver).looks place) m)
      ⊎ IsResetBy net driver place m

-- a loop of nets: each looks at the next, the last at the first
abbrev pub IsNetLoop : Netlist → List ℕ → Type 0
IsNetLoop net nets = IsCircle (λ m n. LooksAt net n m) nets

abbrev pub HasNoNetLoop : Netlist → Type 0
HasNoNetLoop net = (nets : List ℕ) → IsNetLoop net nets → ⊥

pub data Fault : Type 0 where
  TwoDrivers : (net : ℕ) → (first second : Source) → Fault
  MixedProcess : (process : ℕ) → Fault
  ClockNotInput : (process net : ℕ) → Fault
  EdgeNotSensitive : (process net : ℕ) → Fault
  ClockAsData : (process net : ℕ) → Fault
  MissingSensitivity : (process net : ℕ) → Fault
  Latch : (process net : ℕ) → Fault
  Loop : (processes : List ℕ) → Fault
  NetLoop : (nets : List ℕ) → Fault
  StoredVariable : (process variable place : ℕ) → Fault

-- the netlist has this fault
abbrev pub IsFault : Netlist → Fault → Type 0
-- n has two sources or more, these being the first two
IsFault net (TwoDrivers n first second) = (more : List Source) × (sources_of net n ≡ first ∷ second ∷ more)
-- p is neither clocked nor combinational, or has an unsteady reset
IsFault net (MixedProcess p) = ((process net p).kind ≡ Mixed) ⊎ HasUnsteadyReset net p
-- p's clock n is no in port of the top
IsFault net (ClockNotInput p n) = IsClockOf net p n × (IsInput net n → ⊥)
-- p isn't sensitive to its clock, or its reset, n
IsFault net (EdgeNotSensitive p n) = (IsClockOf net p n ⊎ IsResetOf net p n) × (Contains (process net p).wakes n → ⊥)
-- n is a clock, of p or of another process, and the branch of the clocked process p reads it, or it is p's reset
IsFault net (ClockAsData p n) =
    IsClock net n
    × (((clock : ℕ) × IsClockOf net p clock × Contains (process net p).acting_reads n) ⊎ IsResetOf net p n)
-- the combinational process p reads n and isn't sensitive to it
IsFault net (MissingSensitivity p n) =
    IsCombinational net p × Contains (process net p).reads n × (Contains (process net p).wakes n → ⊥)
-- the combinational process p drives n and doesn't assign it on every syntactic path
IsFault net (Latch p n) =
    IsCombinational net p × Contains (process net p).drives n × ((process net p).assigns n ≡ false)
-- these processes are a loop, or these nets in the wider language
IsFault net (Loop processes) = (net.wide ≡ false) × IsLoop net processes
IsFault net (NetLoop nets) = IsTrue net.wide × IsNetLoop net nets
-- p reads the element at this place of this variable where it hasn't assigned it on every syntactic path
IsFault net (StoredVariable p variable place) = IsTrue ((process net p).stores variable place)

-- accepted: no fault
abbrev pub IsAccepted : Netlist → Type 0
IsAccepted net = (fault : Fault) → IsFault net fault → ⊥

-- It is judged by nets, in place of by processes: in the wider language, where there is a loop of processes, or a reset
-- is made inside.
abbrev pub IsByNets : Netlist → Type 0
IsByNets net =
    IsTrue net.wide
    × (((processes : List ℕ) × IsLoop net processes) ⊎ ((p : ℕ) × (n : ℕ) × IsInnerReset net p n))
