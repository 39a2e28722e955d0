-- The list of a netlist's faults: all but loops, in order, each once; or else one loop.
use Rattle.std.specs.Prelude.{◌≡◌, ◌≢◌, ℕ, ◌⊎◌, ◌↔◌, Bool, not, ◌==◌, IsTrue, List, [], ◌∷◌, Contains}
use Rattle.rtl_model.specs.basics.Lists.{RisesBy}
use Rattle.rtl_model.specs.simulation.Netlist.{Netlist}
use Rattle.rtl_model.specs.simulation.Accepted.{Fault, TwoDrivers, MixedProcess, ClockNotInput, EdgeNotSensitive, ClockAsData}
use Rattle.rtl_model.specs.simulation.Accepted.{MissingSensitivity, Latch, Loop, NetLoop, StoredVariable, IsFault}

abbrev pub fault_number : Fault → ℕ
fault_number (TwoDrivers net first second) = 1
fault_number (MixedProcess process) = 2
fault_number (ClockNotInput process net) = 3
fault_number (EdgeNotSensitive process net) = 4
fault_number (ClockAsData process net) = 5
fault_number (MissingSensitivity process net) = 6
fault_number (Latch process net) = 7
fault_number (Loop processes) = 8
fault_number (NetLoop nets) = 8
fault_number (StoredVariable process variable place) = 9

-- what faults of one number are ordered by: the net of the first fault; process and net; process, variable and place
abbrev pub fault_place : Fault → List ℕ
fault_place (TwoDrivers net first second) = net ∷ []
fault_place (MixedProcess process) = process ∷ []
fault_place (ClockNotInput process net) = process ∷ net ∷ []
fault_place (EdgeNotSensitive process net) = process ∷ net ∷ []
fault_place (ClockAsData process net) = process ∷ net ∷ []
fault_place (MissingSensitivity process net) = process ∷ net ∷ []
fault_place (Latch process net) = process ∷ net ∷ []
fault_place (Loop processes) = processes
fault_place (NetLoop nets) = nets
fault_place (StoredVariable process variable place) = process ∷ variable ∷ place ∷ []

abbrev pub fault_key : Fault → List ℕ
fault_key fault = fault_number fault ∷ fault_place fault

abbrev pub is_no_loop : Fault → Bool
is_no_loop fault = not (fault_number fault == 8)

abbrev pub is_of_stored : Fault → Bool
is_of_stored fault = fault_number fault == 9

-- these are the netlist's faults of some kind, in order, each once
pub record AreFaultsOf (net : Netlist) (among : Fault → Bool) (faults : List Fault) : Type 0 where
  pub are : (fault : Fault) → Contains faults fault ↔ (IsFault net fault × IsTrue (among fault))
  pub rise : RisesBy fault_key faults

-- all but loops, and the stored variables alone
abbrev pub AreFaultsButLoops : Netlist → List Fault → Type 0
AreFaultsButLoops net = AreFaultsOf net is_no_loop

abbrev pub AreStored : Netlist → List Fault → Type 0
AreStored net = AreFaultsOf net is_of_stored

-- a loop is looked for only where there is no other fault
pub record IsOneLoop (net : Netlist) (faults : List Fault) : Type 0 where
  pub loop : Fault
  pub is : faults ≡ loop ∷ []
  pub is_loop : fault_number loop ≡ 8
  pub has : IsFault net loop
  pub no_other : AreFaultsButLoops net []

-- what a checker lists of a netlist that isn't accepted
abbrev pub AreFaults : Netlist → List Fault → Type 0
AreFaults net faults = (AreFaultsButLoops net faults × (faults ≢ [])) ⊎ IsOneLoop net faults
