-- What a watch is told of a simulation of an accepted netlist under a stimulus without a race: the machine's valuation
-- at each moment, and until when it stands.
use Rattle.std.specs.Prelude.{◌≡◌, ◌≤◌, ◌⊎◌, ℕ, List, [], length, slice_get, Some}
use Rattle.rtl_net.specs.Nets.{NetlistView}
use Rattle.rtl_net.specs.Core.{core}
use Rattle.rtl_stim.specs.Stimuli.{StimulusView, moments, inputs_at}
use Rattle.byte_streams.specs.Stands.{Stand}
use Rattle.rtl_simulation.specs.Watched.{until_of}
use Rattle.rtl_run.specs.Answered.{Admits}
use Rattle.rtl_run.specs.Synchronous.{IsSynchronous}

-- these are the first valuations of a run
abbrev pub AreStandsOf : StimulusView → (run : ℕ → List ℕ) → List Stand → Type 0
AreStandsOf s run stands =
    (m : ℕ) (x : Stand) → slice_get stands m ≡ Some x → (x.values ≡ run m) × (x.until ≡ until_of s m)

-- the netlist is a synchronous machine under the stimulus, and its valuation at each moment was told, in order
pub record IsToldRun (net : NetlistView) (s : StimulusView) (bound : ℕ) (Told : List Stand → Type 0) : Type 0 where
  pub run : ℕ → List ℕ
  pub synchronous : IsSynchronous (core net) bound (inputs_at s) run
  pub stands : List Stand
  pub are : AreStandsOf s run stands
  pub all : length stands ≡ length (moments s)
  pub told : Told stands

-- ---- of a run that fails

-- the netlist is a synchronous machine under the stimulus, and its valuations at the first moments were told, in order
pub record IsToldRunFirst (net : NetlistView) (s : StimulusView) (bound : ℕ) (Told : List Stand → Type 0) : Type 0 where
  pub run : ℕ → List ℕ
  pub synchronous : IsSynchronous (core net) bound (inputs_at s) run
  pub stands : List Stand
  pub are : AreStandsOf s run stands
  pub there : length stands ≤ length (moments s)
  pub told : Told stands

-- of a netlist or a stimulus that isn't admitted nothing was told
abbrev pub WasToldRun : NetlistView → (text : List ℕ) → (Told : List Stand → Type 0) → Type 0
WasToldRun net text Told = Told [] ⊎ Admits net text (λ s bound. IsToldRunFirst net s bound Told)
