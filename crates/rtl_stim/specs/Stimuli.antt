-- What contracts see of a stimulus of a netlist: its inputs with their courses, and the stop.
use Rattle.std.specs.Prelude.{◌≡◌, ◌≢◌, ℕ, List, map, Result, Ok, Err}
use Rattle.vhdl_values.specs.declared.scalar.Nine.{Nine}
use Rattle.vhdl_values.specs.Scalar.{code_of}
use Rattle.rtl_model.specs.simulation.Moments.{at_moments}
use Rattle.rtl_net.specs.Nets.{NetlistView}
use Rattle.rtl_stim_lines.specs.declared.faults.StimFault.{StimFault}
use Rattle.rtl_stim_lines.specs.declared.faults.StimFault.TheVariants.{NoMemory}
use Rattle.rtl_stim_lines.specs.Inputs.{Input}
use Rattle.rtl_stim_lines.specs.Reading.{Schedule, schedule_of}
use Rattle.rtl_stim_lines.specs.Pairs.{Pair, schedule_of_pairs}
use Rattle.rtl_stim_lines.specs.Times as times
use Rattle.rtl_stim_lines.specs.Times.{all_nets, value_at}
use Rattle.rtl_stim.specs.Ports.{inputs_of}

pub record StimulusView : Type 0 where
  pub inputs : List Input
  pub schedule : Schedule

-- the value of each input at the beginning, in the order of the inputs
abbrev pub initial_values : StimulusView → List Nine
initial_values s = map (λ n. value_at s.inputs s.schedule n 0) (all_nets s.inputs)

-- a net's value at a time, by its code
abbrev pub code_at : StimulusView → (time net : ℕ) → ℕ
code_at s t n = code_of (value_at s.inputs s.schedule n t)

-- 0 and the times up to and with the stop at which an input is set or a clock toggles, as they rise
abbrev pub moments : StimulusView → List ℕ
moments s = times.moments s.schedule

-- the inputs at each moment, as a simulation is given them
abbrev pub inputs_at : StimulusView → (m net : ℕ) → ℕ
inputs_at s = at_moments (moments s) (code_at s)

-- A stimulus is what is said of the netlist's inputs. It is refused for want of memory, or with what is wrong.
abbrev pub IsSaid : NetlistView → (said : Result Schedule StimFault) → Result StimulusView StimFault → Type 0
IsSaid net said (Ok s) = (s.inputs ≡ inputs_of net) × (said ≡ Ok s.schedule)
IsSaid net said (Err fault) = fault ≢ NoMemory → said ≡ Err fault

-- by a text
abbrev pub IsRead : NetlistView → (text : List ℕ) → Result StimulusView StimFault → Type 0
IsRead net text answer = IsSaid net (schedule_of (inputs_of net) text) answer

-- by names with values
abbrev pub IsPaired : NetlistView → List Pair → Result StimulusView StimFault → Type 0
IsPaired net pairs answer = IsSaid net (schedule_of_pairs (inputs_of net) pairs) answer
