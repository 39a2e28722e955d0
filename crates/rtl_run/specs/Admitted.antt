-- Which netlists and texts of stimuli are simulated as a synchronous machine, and why others are refused: by the
-- checker first, then by the text, and then by a race.
use Rattle.std.specs.Prelude.{◌≡◌, ℕ, suc, ◌<◌, List, map, length, slice_index, Option, Ok, Err}
use Rattle.rtl_model.specs.simulation.Netlist.{Netlist, Edge}
use Rattle.rtl_model.specs.simulation.Accepted.{IsAccepted, IsByNets}
use Rattle.rtl_model.specs.simulation.Faults.{AreFaults}
use Rattle.rtl_model.specs.simulation.Levels.{AreLevels}
use Rattle.rtl_model.specs.simulation.NetLevels.{AreLevelsByNets}
use Rattle.rtl_model.specs.simulation.Races.{IsFirstRace}
use Rattle.rtl_model.specs.simulation.Report.{AreClocks}
use Rattle.rtl_net.specs.Nets.{NetlistView}
use Rattle.rtl_net.specs.Core.{core}
use Rattle.rtl_check.specs.Views.{fault_view}
use Rattle.rtl_stim_lines.specs.declared.faults.StimFault.{StimFault}
use Rattle.rtl_stim_lines.specs.declared.faults.StimFault.TheVariants.{Race, NoMemory}
use Rattle.rtl_stim_lines.specs.Reading.{schedule_of}
use Rattle.rtl_stim.specs.Ports.{inputs_of}
use Rattle.rtl_stim.specs.Stimuli.{StimulusView, IsRead, moments, inputs_at}
use Rattle.rtl_run.specs.declared.admission.Acceptance.{Acceptance}
use Rattle.rtl_run.specs.declared.machine_levels.MachineLevels.{MachineLevels}
use Rattle.rtl_run.specs.declared.machine_levels.MachineLevels.TheVariants.{OfProcesses, OfNets}
use Rattle.rtl_run.specs.declared.fault.MachineFault.{MachineFault}
use Rattle.rtl_run.specs.declared.fault.MachineFault.TheVariants.{Rejected, Stim, Memory, Output}
use Rattle.rtl_run.specs.Synchronous.{SaysYes, IsRaceless}

-- these are the levels of its processes, by which it is judged, or by nets those of its nets
abbrev pub AreMachineLevels : Netlist → MachineLevels → Type 0
AreMachineLevels net (OfProcesses levels) =
    (IsByNets net → ⊥) × (greatest : ℕ) × AreLevels net levels.items greatest
AreMachineLevels net (OfNets nets) =
    (levels : List (Option ℕ)) × (greatest : ℕ) × AreLevelsByNets net levels nets.items greatest

-- the checker says yes with this bound, and these are the clocks and levels
pub record IsAcceptedWith (net : Netlist) (a : Acceptance) : Type 0 where
  pub says : SaysYes net a.bound
  pub clocks_are : AreClocks net a.clocks.items
  pub levels_are : AreMachineLevels net a.levels

module _ (net : NetlistView) (text : List ℕ) where
  -- The checker says yes with this bound, the text says this stimulus of the netlist's inputs, and it has no race.
  pub record IsAdmitted (bound : ℕ) (s : StimulusView) : Type 0 where
    pub accepted : SaysYes (core net) bound
    pub says : IsRead net text (Ok s)
    pub raceless : IsRaceless (core net) (inputs_at s)

  -- The text says a stimulus of an accepted netlist, and this is its earliest race: at the time of the moment after m,
  -- of the lowest data input that changes there with the lowest clock that has an active edge.
  pub record HasFirstRace (time input clock : ℕ) : Type 0 where
    pub accepted : IsAccepted (core net)
    pub s : StimulusView
    pub says : IsRead net text (Ok s)
    pub clocks : List (ℕ × Edge)
    pub clocks_are : AreClocks (core net) clocks
    pub m : ℕ
    pub there : suc m < length (moments s)
    pub at_time : slice_index (moments s) (suc m) ≡ time
    pub first : IsFirstRace (core net) clocks (inputs_at s) m input clock

  -- why an accepted netlist's stimulus is refused: by its first race, or by the first bad line of the text
  abbrev pub RefusesStimulus : StimFault → Type 0
  RefusesStimulus (Race time input clock) = HasFirstRace time input clock
  RefusesStimulus NoMemory = ⊥
  RefusesStimulus fault = IsAccepted (core net) × (schedule_of (inputs_of net) text ≡ Err fault)

  -- why nothing is simulated
  abbrev pub RefusesNet : MachineFault → Type 0
  -- by the list of the checker, which an accepted netlist doesn't have
  RefusesNet (Rejected faults) = AreFaults (core net) (map fault_view faults.items)
  RefusesNet (Stim fault) = RefusesStimulus fault
  RefusesNet Memory = Unit {0}
  RefusesNet Output = ⊥
