-- The laws of simulation, over the definitions beside this file.
use Rattle.std.specs.Prelude.{◌≡◌, ◌↔◌, ◌⊎◌, ℕ, suc, pred, ◌<◌, ◌≤◌, Bool, false, if◌then◌else◌, List}
use Rattle.std.specs.Prelude.{[], ◌∷◌, ◌++◌, length, map, Option, Some, None, slice_index, slice_index_or, Contains, IsTrue}
use Rattle.rtl_model.specs.simulation.Netlist.{Netlist, Source, Driver, Edge, Reset, process, sources_of, target}
use Rattle.rtl_model.specs.simulation.Netlist.{reset_of, reset_entry, resets, HasReset, IsInput, IsCombinational}
use Rattle.rtl_model.specs.simulation.Cycle.{State, start_state, after_update, after_inputs, after_run, is_quiet, source_value, with_changes}
use Rattle.rtl_model.specs.simulation.Moments.{HasNoneToRun, HasRun, HasDeltas, Delta, Begun, SettlesIn, SettlesTo, IsUnsettled, HasSettled, IsMost, at_moments}
use Rattle.rtl_model.specs.simulation.Elaborated.{IsElaborated, IsWired}
use Rattle.rtl_model.specs.simulation.Accepted.{Fault, IsAccepted, HasNoLoop, HasNoNetLoop, IsByNets}
use Rattle.rtl_model.specs.simulation.Faults.{AreFaultsOf, AreFaultsButLoops, AreStored, IsOneLoop, AreFaults}
use Rattle.rtl_model.specs.simulation.Levels.{AreLevels, IsLevel, ShowLevels, Rises}
use Rattle.rtl_model.specs.simulation.NetLevels.{AreLevelsByNets, IsBound, IsNetLevel, IsNetReport, ShowNetLevels}
use Rattle.rtl_model.specs.simulation.Report.{AreClocks, IsReport, LeadsDown, ShowReport}
use Rattle.rtl_model.specs.simulation.Races.{IsRace, HasNoRace, IsRaceOf, IsFirstRace}
use Rattle.rtl_model.specs.simulation.Machine.{Solves, entry_or, register_first, register_next, IsMachineRun}
use Rattle.rtl_model.specs.simulation.Calm.{IsCalm}
use Rattle.rtl_model.specs.simulation.Range.{IsValuation, KeepsRange, SourcesKeepRange, StateInRange, AreInputs, AreRegisters}

-- ---- of every netlist

-- two orders of one cycle's Runs end in the same state
abbrev pub OrderIsFree : Type 0
OrderIsFree = (net : Netlist) (s t u : State) → HasRun net s t → HasRun net s u → t ≡ u

-- Whole simulations agree, whatever their orders: a moment has one state after its first cycle, and settles in one way.
abbrev pub EveryOrderIsOne : Type 0
EveryOrderIsOne =
    (net : Netlist) (stimulus : ℕ → ℕ → ℕ) (m : ℕ)
    → ((s t : State) → Begun net stimulus m s → Begun net stimulus m t → s ≡ t)
    × ((k j : ℕ) (t u : State) → HasSettled net stimulus m k t → HasSettled net stimulus m j u → (k ≡ j) × (t ≡ u))

-- each net with sources has the resolution of their values
abbrev pub IsConsistent : Netlist → State → Type 0
IsConsistent net s =
    (n : ℕ) (source : Source) → n < length net.start → Contains (sources_of net n) source
    → slice_index s.now n ≡ net.resolve (map (source_value s.drivers) (sources_of net n))

-- A simulation begins consistent, and its steps keep it so; hence a net none of whose drivers is active keeps
-- its value.
pub record StaysConsistent (net : Netlist) : Type 0 where
  pub starts : (inputs : ℕ → ℕ) → IsConsistent net (start_state net inputs)
  pub updates : (s : State) → IsConsistent net (after_update net s)
  pub gives : (inputs : ℕ → ℕ) (s : State) → IsConsistent net s → IsConsistent net (after_inputs net inputs s)
  pub runs : (p : ℕ) (s : State) → IsConsistent net s → IsConsistent net (after_run net p s)
  pub keeps : (s : State) (n : ℕ) → IsConsistent net s → n < length net.start
      → ((p place : ℕ) → Contains (sources_of net n) (Driver p place)
      → slice_index_or (slice_index_or s.pending p []) place None ≡ None)
      → slice_index (after_update net s).now n ≡ slice_index s.now n

abbrev pub EachStaysConsistent : Type 0
EachStaysConsistent = (net : Netlist) → IsWired net → StaysConsistent net

-- The inputs alone are looked at.
pub record InputsAlone (net : Netlist) (inputs other : ℕ → ℕ) : Type 0 where
  pub starts : start_state net inputs ≡ start_state net other
  pub gives : (s : State) → after_inputs net inputs s ≡ after_inputs net other s

abbrev pub EachTakesInputsAlone : Type 0
EachTakesInputsAlone =
    (net : Netlist) (inputs other : ℕ → ℕ)
    → ((n : ℕ) → IsInput net n → inputs n ≡ other n) → InputsAlone net inputs other

-- Throughout a moment the inputs have the stimulus's values.
pub record InputsHold (net : Netlist) (stimulus : ℕ → ℕ → ℕ) (m n : ℕ) : Type 0 where
  pub begun : (s : State) → Begun net stimulus m s → slice_index s.now n ≡ stimulus m n
  pub settled : (k : ℕ) (t : State) → HasSettled net stimulus m k t → slice_index t.now n ≡ stimulus m n

abbrev pub EachInputHolds : Type 0
EachInputHolds =
    (net : Netlist) → IsWired net → (stimulus : ℕ → ℕ → ℕ) (m n : ℕ) → IsInput net n → InputsHold net stimulus m n

-- A net that no change names keeps its value, and one that a change names, and no later one, has that change's.
pub record ChangesAreMade (changes : List (ℕ × ℕ)) (old : List ℕ) : Type 0 where
  pub kept : (n : ℕ) → ((value : ℕ) → Contains changes (n, value) → ⊥) → with_changes changes old n ≡ slice_index old n
  pub last : (n value : ℕ) → n < length old → with_changes (changes ++ ((n, value) ∷ [])) old n ≡ value
  pub others : (n m value : ℕ) → (n ≡ m → ⊥)
      → with_changes (changes ++ ((m, value) ∷ [])) old n ≡ with_changes changes old n

abbrev pub EachChangeIsMade : Type 0
EachChangeIsMade = (changes : List (ℕ × ℕ)) (old : List ℕ) → ChangesAreMade changes old

-- no state less than k delta cycles from s is quiet
abbrev pub IsBusyBefore : Netlist → State → ℕ → Type 0
IsBusyBefore net s k = (j : ℕ) (t : State) → j < k → HasDeltas net j s t → is_quiet t ≡ false

-- One run of delta cycles shows what every order does.
pub record OneRunShows (net : Netlist) (s : State) : Type 0 where
  pub one_state : (k : ℕ) (t u : State) → HasDeltas net k s t → HasDeltas net k s u → t ≡ u
  pub none_yet : HasDeltas net 0 s s × IsBusyBefore net s 0
  pub one_more : (k : ℕ) (order : List ℕ) (t u : State)
      → HasDeltas net k s t → Delta net order t u → HasDeltas net (suc k) s u
  pub still_busy : (k : ℕ) (t : State) → IsBusyBefore net s k
      → HasDeltas net k s t → is_quiet t ≡ false → IsBusyBefore net s (suc k)
  pub settles_by : (k : ℕ) (t : State) → HasNoneToRun s → IsBusyBefore net s k
      → HasDeltas net k s t → IsTrue (is_quiet t) → SettlesIn net s k
  pub unsettled_by : (limit : ℕ) (t : State) → HasNoneToRun s
      → IsBusyBefore net s limit → HasDeltas net limit s t → is_quiet t ≡ false
      → IsUnsettled net s limit t

abbrev pub EachRunShows : Type 0
EachRunShows = (net : Netlist) (s : State) → OneRunShows net s

-- So a state with nothing to run settles within a limit, or is unsettled there, and not both.
abbrev pub HasSettledWithin : Netlist → State → (limit : ℕ) → Type 0
HasSettledWithin net s limit = (k : ℕ) × (t : State) × (k ≤ limit) × SettlesTo net s k t

abbrev pub SettlesOrNot : Type 0
SettlesOrNot =
    (net : Netlist) (s : State) (limit : ℕ) → HasNoneToRun s
    → (HasSettledWithin net s limit ⊎ ((t : State) × IsUnsettled net s limit t))
    × (HasSettledWithin net s limit → (t : State) → IsUnsettled net s limit t → ⊥)

-- two stimuli agree on the inputs up to a moment
abbrev pub AgreeUpTo : Netlist → (stimulus other : ℕ → ℕ → ℕ) → (m : ℕ) → Type 0
AgreeUpTo net stimulus other m = (j n : ℕ) → j ≤ m → IsInput net n → stimulus j n ≡ other j n

-- What happens up to a moment depends on the moments up to it alone.
pub record DependsOnPast (net : Netlist) (stimulus other : ℕ → ℕ → ℕ) (m : ℕ) : Type 0 where
  pub begins : (s : State) → Begun net stimulus m s → Begun net other m s
  pub settles : (k : ℕ) (t : State) → HasSettled net stimulus m k t → HasSettled net other m k t
  pub machine : IsElaborated net → IsAccepted net → (v w : ℕ → List ℕ)
      → IsMachineRun net stimulus v → IsMachineRun net other w → v m ≡ w m
  pub races : IsAccepted net → HasNoRace net stimulus m → HasNoRace net other m

abbrev pub EachDependsOnPast : Type 0
EachDependsOnPast =
    (net : Netlist) (stimulus other : ℕ → ℕ → ℕ) (m : ℕ)
    → AgreeUpTo net stimulus other m → DependsOnPast net stimulus other m

-- Past the last of its times a stimulus changes nothing: no race is there, and its values are in range where those at
-- its times are.
pub record EndsAtLast (net : Netlist) (times : List ℕ) (value : (time n : ℕ) → ℕ) : Type 0 where
  pub is_at : (m : ℕ) → m < length times → at_moments times value m ≡ value (slice_index times m)
  pub stays : (m : ℕ) → length times ≤ suc m → at_moments times value (suc m) ≡ at_moments times value m
  pub no_race : HasNoRace net (at_moments times value) (pred (length times))
      → (last : ℕ) → HasNoRace net (at_moments times value) last
  pub in_range : 1 ≤ length times → ((k : ℕ) → k < length times → AreInputs net (value (slice_index times k)))
      → (m : ℕ) → AreInputs net (at_moments times value m)

abbrev pub EachEndsAtLast : Type 0
EachEndsAtLast = (net : Netlist) (times : List ℕ) (value : (time n : ℕ) → ℕ) → EndsAtLast net times value

-- Races are what a report's clocks show, and the earliest has one name.
pub record ClocksShowRaces (net : Netlist) (clocks : List (ℕ × Edge)) : Type 0 where
  pub same : (before now : ℕ → ℕ)
      → IsRace net before now ↔ ((input clock : ℕ) × IsRaceOf net clocks before now input clock)
  pub one_first : (stimulus : ℕ → ℕ → ℕ) (m input clock m' input' clock' : ℕ)
      → IsFirstRace net clocks stimulus m input clock → IsFirstRace net clocks stimulus m' input' clock'
      → (m ≡ m') × (input ≡ input') × (clock ≡ clock')

abbrev pub EachClockShowsRaces : Type 0
EachClockShowsRaces = (net : Netlist) (clocks : List (ℕ × Edge)) → AreClocks net clocks → ClocksShowRaces net clocks

-- A netlist has one list of faults, unless it has loops alone; and one at all only where it isn't accepted.
pub record FaultsAreListed (net : Netlist) : Type 0 where
  pub one_of : (among : Fault → Bool) (faults other : List Fault)
      → AreFaultsOf net among faults → AreFaultsOf net among other → faults ≡ other
  pub one_list : (faults other : List Fault) → AreFaults net faults → AreFaults net other
      → (faults ≡ other) ⊎ (IsOneLoop net faults × IsOneLoop net other)
  pub none_if_accepted : (faults : List Fault) → AreFaults net faults → IsAccepted net → ⊥
  pub accepted_is : IsAccepted net
      ↔ (AreFaultsButLoops net [] × (net.wide ≡ false → HasNoLoop net) × (IsTrue net.wide → HasNoNetLoop net))
  pub stores_none : AreStored net [] ↔ ((p variable place : ℕ) → (process net p).stores variable place ≡ false)

abbrev pub EachFaultIsListed : Type 0
EachFaultIsListed = (net : Netlist) → FaultsAreListed net

-- The steps keep a state's values in range.
pub record StepsKeepRange (net : Netlist) : Type 0 where
  pub starts : (inputs : ℕ → ℕ) → AreInputs net inputs → StateInRange net (start_state net inputs)
  pub updates : (s : State) → StateInRange net s → StateInRange net (after_update net s)
  pub gives : (inputs : ℕ → ℕ) (s : State) → AreInputs net inputs
      → StateInRange net s → StateInRange net (after_inputs net inputs s)
  pub runs : (p : ℕ) (s : State) → StateInRange net s → StateInRange net (after_run net p s)

-- So whatever a netlist settles in, accepted or not, has values of the nets' types, where the stimulus has.
abbrev pub StatesInRange : Type 0
StatesInRange =
    (net : Netlist) → IsWired net → KeepsRange net → SourcesKeepRange net
    → StepsKeepRange net
    × ((stimulus : ℕ → ℕ → ℕ) → ((m : ℕ) → AreInputs net (stimulus m))
    → (m k : ℕ) (t : State) → HasSettled net stimulus m k t → StateInRange net t)

-- without a loop each combinational process has a level
abbrev pub LevelsExist : Type 0
LevelsExist =
    (net : Netlist) → HasNoLoop net → (levels : List (Option ℕ)) × (greatest : ℕ) × AreLevels net levels greatest

-- without a loop of nets each net has a level, and each process that may assign in a delta cycle
abbrev pub LevelsByNetsExist : Type 0
LevelsByNetsExist =
    (net : Netlist) → IsWired net → HasNoNetLoop net
    → (levels : List (Option ℕ)) × (nets : List ℕ) × (greatest : ℕ) × AreLevelsByNets net levels nets greatest

-- What shows levels gives each process its level, no rising numbering is lower anywhere, and there is no loop.
abbrev pub LevelsAreShown : Type 0
LevelsAreShown =
    (net : Netlist) (levels from : List (Option ℕ)) → ShowLevels net levels from
    → ((p level : ℕ) → IsCombinational net p → slice_index_or levels p None ≡ Some level
    → IsLevel net p level × ((number : ℕ → ℕ) → Rises net number → level ≤ number p))
    × HasNoLoop net

-- Levels of nets are what local facts show, and then there is no loop of nets.
abbrev pub NetLevelsAreShown : Type 0
NetLevelsAreShown =
    (net : Netlist) (nets : List ℕ)
    → (((n : ℕ) → IsNetLevel net n (slice_index nets n)) ↔ ShowNetLevels net nets)
    × (ShowNetLevels net nets → HasNoNetLoop net)

-- levels by nets satisfy them, so that they rise along each look
abbrev pub LevelsByNetsRise : Type 0
LevelsByNetsRise =
    (net : Netlist) (levels : List (Option ℕ)) (nets : List ℕ) (greatest : ℕ) → IsWired net
    → AreLevelsByNets net levels nets greatest → ShowNetLevels net nets

-- What is a report is shown by local facts, and what they show is a report.
abbrev pub ReportsAreShown : Type 0
ReportsAreShown =
    (net : Netlist) (levels from : List (Option ℕ)) (clocks : List (ℕ × Edge)) (most : ℕ)
    → IsReport net levels from clocks most
    ↔ ShowReport net levels from clocks most

-- In a report each level is reached by following `from` down to level 1.
abbrev pub ReportsLeadDown : Type 0
ReportsLeadDown =
    (net : Netlist) (levels from : List (Option ℕ)) (clocks : List (ℕ × Edge)) (most : ℕ)
    → IsReport net levels from clocks most
    → (q level : ℕ) → IsCombinational net q → slice_index_or levels q None ≡ Some level → LeadsDown net from q level

-- a netlist has no more than one report by nets
abbrev pub OneNetReport : Type 0
OneNetReport =
    (net : Netlist) (levels levels' from from' : List (Option ℕ)) (nets nets' : List ℕ) (looks looks' : List (Option ℕ))
    (clocks clocks' : List (ℕ × Edge)) (most most' : ℕ)
    → IsNetReport net levels from nets looks clocks most → IsNetReport net levels' from' nets' looks' clocks' most'
    → (levels ≡ levels') × (from ≡ from') × (nets ≡ nets') × (looks ≡ looks') × (clocks ≡ clocks')
    × (most ≡ most')

-- what has no fault but perhaps a loop, and isn't judged by nets, is accepted where no processes are a loop
abbrev pub AcceptedByProcesses : Type 0
AcceptedByProcesses =
    (net : Netlist) → IsElaborated net → AreFaultsButLoops net [] → HasNoLoop net → (IsByNets net → ⊥) → IsAccepted net

-- ---- of an accepted netlist

-- an accepted netlist has no more than one report
abbrev pub OneReport : Type 0
OneReport =
    (net : Netlist) → IsAccepted net
    → (levels levels' from from' : List (Option ℕ)) (clocks clocks' : List (ℕ × Edge)) (most most' : ℕ)
    → IsReport net levels from clocks most → IsReport net levels' from' clocks' most'
    → (levels ≡ levels') × (from ≡ from') × (clocks ≡ clocks')
    × (most ≡ most')

-- and no more than one bound
abbrev pub OneBound : Type 0
OneBound =
    (net : Netlist) (greatest greatest' most most' : ℕ) → IsAccepted net
    → IsBound net greatest most → IsBound net greatest' most' → (greatest ≡ greatest') × (most ≡ most')

-- for given inputs and registers one valuation solves, and no other
abbrev pub OneSolution : Type 0
OneSolution =
    (net : Netlist) → IsElaborated net → IsAccepted net → (inputs registers : ℕ → ℕ)
    → (v : List ℕ) × Solves net inputs registers v × ((w : List ℕ) → Solves net inputs registers w → w ≡ v)

-- where the inputs and registers have values of their types, so has every net in the solution
abbrev pub SolutionsInRange : Type 0
SolutionsInRange =
    (net : Netlist) → IsElaborated net → IsAccepted net → KeepsRange net
    → (inputs registers : ℕ → ℕ) → AreInputs net inputs → AreRegisters net registers
    → (v : List ℕ) → Solves net inputs registers v → IsValuation net v

-- under each stimulus the synchronous machine has one run
abbrev pub OneMachineRun : Type 0
OneMachineRun =
    (net : Netlist) → IsElaborated net → IsAccepted net → (stimulus : ℕ → ℕ → ℕ)
    → (v : ℕ → List ℕ) × IsMachineRun net stimulus v × ((w : ℕ → List ℕ) → IsMachineRun net stimulus w → w ≡ v)

-- p's reset, if it has one, is an input and stands before the edge
abbrev pub HasInputReset : Netlist → (p : ℕ) → Type 0
HasInputReset net p = (reset : Reset) → HasReset net p reset → IsInput net reset.net × IsTrue reset.gates

-- Then the machine reads it in the new inputs alone. A register has its reset's entry where the reset holds in them, if
-- there is one; else, where the reset doesn't hold, its branch's at its edge; and else what it had.
pub record ResetsByInputs (net : Netlist) (p place : ℕ) (inputs : ℕ → ℕ) (w : List ℕ) : Type 0 where
  pub first : register_first net p place inputs w
      ≡ (if resets (reset_of net p) inputs
      then entry_or (reset_entry (reset_of net p) place) (slice_index net.start (target net p place))
      else slice_index net.start (target net p place))
  pub next : (clock : ℕ) (edge : Edge) (v : List ℕ) → register_next net p place clock edge v inputs w
      ≡ (if resets (reset_of net p) inputs
      then entry_or (reset_entry (reset_of net p) place) (slice_index v (target net p place))
      else if net.edge edge (slice_index v clock) (inputs clock)
      then entry_or (slice_index_or ((process net p).acting_effect v) place None) (slice_index v (target net p place))
      else slice_index v (target net p place))

abbrev pub InputsResetAsSaid : Type 0
InputsResetAsSaid =
    (net : Netlist) (p place : ℕ) → IsWired net → HasInputReset net p → (inputs : ℕ → ℕ) (w : List ℕ)
    → ((n : ℕ) → IsInput net n → slice_index w n ≡ inputs n) → ResetsByInputs net p place inputs w

-- its valuations are in range where the stimulus is
abbrev pub RunsInRange : Type 0
RunsInRange =
    (net : Netlist) → IsElaborated net → IsAccepted net → KeepsRange net
    → (stimulus : ℕ → ℕ → ℕ) → ((m : ℕ) → AreInputs net (stimulus m))
    → (v : ℕ → List ℕ) → IsMachineRun net stimulus v → (m : ℕ) → IsValuation net (v m)

-- each moment is reached, and settles
abbrev pub EachMomentComes : Type 0
EachMomentComes =
    (net : Netlist) → IsElaborated net → IsAccepted net → (stimulus : ℕ → ℕ → ℕ) (m : ℕ)
    → (k : ℕ) × (t : State) × HasSettled net stimulus m k t

-- no process has a reset
abbrev pub HasNoReset : Netlist → Type 0
HasNoReset net = (p : ℕ) (reset : Reset) → HasReset net p reset → ⊥

-- Whatever the orders so far, each moment settles, within the bound, and at the start within the greatest level where
-- nothing is reset.
abbrev pub SettlesInBound : Type 0
SettlesInBound =
    (net : Netlist) (greatest most : ℕ) → IsElaborated net → IsAccepted net → IsBound net greatest most
    → (stimulus : ℕ → ℕ → ℕ) (m : ℕ) (s : State) → Begun net stimulus m s
    → (k : ℕ) × SettlesIn net s k × (k ≤ most) × (m ≡ 0 → HasNoReset net → k ≤ greatest)

-- So there is one greatest number of delta cycles of the moments up to a last one, and it is within the bound.
abbrev pub OneGreatestCount : Type 0
OneGreatestCount =
    (net : Netlist) (greatest most : ℕ) → IsElaborated net → IsAccepted net → IsBound net greatest most
    → (stimulus : ℕ → ℕ → ℕ) (last : ℕ)
    → (count : ℕ) × IsMost net stimulus last count × (count ≤ most)
    × ((other : ℕ) → IsMost net stimulus last other → other ≡ count)

-- Whether a net is calm can be decided.
abbrev pub CalmIsDecided : Type 0
CalmIsDecided =
    (net : Netlist) → IsElaborated net → (n : ℕ) (these : ℕ → Bool)
    → IsCalm net n these ⊎ (IsCalm net n these → ⊥)

-- Where no moment up to m has a race: what a calm net has after some delta cycles of m, being one of its values, it has
-- one of after m's first cycle, or in what m settles in.
abbrev pub EachCalmNetKeeps : Type 0
EachCalmNetKeeps =
    (net : Netlist) → IsElaborated net → IsAccepted net → (stimulus : ℕ → ℕ → ℕ) (m : ℕ) → HasNoRace net stimulus m
    → (s mid t : State) (j k : ℕ) → Begun net stimulus m s → HasDeltas net j s mid → SettlesTo net s k t
    → (n : ℕ) (these : ℕ → Bool) → IsCalm net n these → IsTrue (these (slice_index mid.now n))
    → IsTrue (these (slice_index s.now n)) ⊎ IsTrue (these (slice_index t.now n))

-- Where no moment up to m has a race, what has settled at m is the valuation of the machine's run.
abbrev pub IsTheMachine : Type 0
IsTheMachine =
    (net : Netlist) → IsElaborated net → IsAccepted net → (stimulus : ℕ → ℕ → ℕ) (m : ℕ) → HasNoRace net stimulus m
    → (k : ℕ) (t : State) → HasSettled net stimulus m k t → (v : ℕ → List ℕ) → IsMachineRun net stimulus v → t.now ≡ v m
