-- The simulation of a netlist under a stimulus, moment by moment (IEEE 1076-2008, 14.7.5).
use Rattle.std.specs.Prelude.{◌≡◌, ℕ, ◌≤◌, List, length, slice_get, Some, filter}
use Rattle.std.specs.List.{range_with_len}
use Rattle.rtl_model.specs.basics.Valuations.{has_event}
use Rattle.rtl_model.specs.simulation.Cycle.{State}
use Rattle.rtl_model.specs.simulation.Moments.{HasSettled, Begun, IsUnsettled}
use Rattle.rtl_net.specs.Core.{core}
use Rattle.rtl_net.specs.Nets.{NetlistView}
use Rattle.rtl_stim.specs.Stimuli.{StimulusView, moments, inputs_at}

-- what a moment settles to: the nets' values, after so many delta cycles
pub record Settled : Type 0 where
  pub deltas : ℕ
  pub values : List ℕ

-- the moment m settles so, by some orders of processes
pub record SettlesAs (net : NetlistView) (s : StimulusView) (m : ℕ) (x : Settled) : Type 0 where
  pub state : State
  pub settled : HasSettled (core net) (inputs_at s) m x.deltas state
  pub values : state.now ≡ x.values

-- the first moments settle so, each within the limit
pub record AreMoments (net : NetlistView) (s : StimulusView) (limit : ℕ) (settled : List Settled) : Type 0 where
  pub there : length settled ≤ length (moments s)
  pub each : (m : ℕ) (x : Settled) → slice_get settled m ≡ Some x → SettlesAs net s m x
  pub within : (m : ℕ) (x : Settled) → slice_get settled m ≡ Some x → x.deltas ≤ limit

-- no number of delta cycles up to the limit settles the moment m
pub record NeverSettles (net : NetlistView) (s : StimulusView) (limit m : ℕ) : Type 0 where
  pub begun : State
  pub is_begun : Begun (core net) (inputs_at s) m begun
  pub state : State
  pub unsettled : IsUnsettled (core net) begun limit state

-- the numbers of the nets whose values differ, in order
abbrev pub changing : (before now : List ℕ) → List ℕ
changing before now = filter (has_event before now) (range_with_len 0 (length now))
