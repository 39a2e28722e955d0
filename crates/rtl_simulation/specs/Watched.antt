-- What a watch is told of a simulation: what each moment settles to, and until when it stands.
use Rattle.std.specs.Prelude.{◌≡◌, ℕ, suc, ◌<◌, ◌≤◌, List, length, slice_get, slice_index, slice_index_or, Some}
use Rattle.rtl_model.specs.simulation.Cycle.{State}
use Rattle.rtl_model.specs.simulation.Moments.{HasSettled}
use Rattle.rtl_net.specs.Nets.{NetlistView}
use Rattle.rtl_stim.specs.Stimuli.{StimulusView, moments, inputs_at}
use Rattle.byte_streams.specs.Stands.{Stand}
use Rattle.rtl_net.specs.Core.{core}
use Rattle.rtl_simulation.specs.Simulated.{NeverSettles}
use Rattle.rtl_simulation.specs.declared.summary.RunFault.{RunFault}
use Rattle.rtl_simulation.specs.declared.summary.RunFault.TheVariants.{NoSettling}

-- What the moment m settles to stands until the next moment; at the last one, until the stop is over.
abbrev pub until_of : StimulusView → (m : ℕ) → ℕ
until_of s m = slice_index_or (moments s) (suc m) (suc s.schedule.stop)

-- the moment m settles so, by some orders of processes, and until then it stands
pub record StandsFrom (net : NetlistView) (s : StimulusView) (m : ℕ) (x : Stand) : Type 0 where
  pub deltas : ℕ
  pub state : State
  pub settled : HasSettled (core net) (inputs_at s) m deltas state
  pub values : state.now ≡ x.values
  pub until : x.until ≡ until_of s m

-- the first moments settle so
abbrev pub AreStands : NetlistView → StimulusView → List Stand → Type 0
AreStands net s stands = (m : ℕ) (x : Stand) → slice_get stands m ≡ Some x → StandsFrom net s m x

-- it was told what each moment settles to, in order
pub record IsToldAll (net : NetlistView) (s : StimulusView) (Told : List Stand → Type 0) : Type 0 where
  pub stands : List Stand
  pub are : AreStands net s stands
  pub all : length stands ≡ length (moments s)
  pub told : Told stands

-- ---- of a run that fails

-- it was told what the first moments settle to, in order
pub record IsToldFirst (net : NetlistView) (s : StimulusView) (Told : List Stand → Type 0) : Type 0 where
  pub stands : List Stand
  pub are : AreStands net s stands
  pub there : length stands ≤ length (moments s)
  pub told : Told stands

-- It was told what the moments before this time settle to, in order, and then of the moment at this time, which doesn't
-- settle: the values before the last delta cycle allowed, and those after it.
pub record IsToldUnsettled (net : NetlistView) (s : StimulusView) (limit time : ℕ)
    (Stuck : List Stand → (before now : List ℕ) → (time : ℕ) → Type 0) : Type 0 where
  pub stands : List Stand
  pub are : AreStands net s stands
  pub more : length stands < length (moments s)
  pub is_at : slice_index (moments s) (length stands) ≡ time
  pub never : NeverSettles net s limit (length stands)
  pub stuck : Stuck stands never.state.before never.state.now time

abbrev pub WasTold : NetlistView → StimulusView → (limit : ℕ) → (Told : List Stand → Type 0)
    → (Stuck : List Stand → (before now : List ℕ) → (time : ℕ) → Type 0) → RunFault → Type 0
WasTold net s limit Told Stuck (NoSettling time) = IsToldUnsettled net s limit time Stuck
WasTold net s limit Told Stuck _ = IsToldFirst net s Told
