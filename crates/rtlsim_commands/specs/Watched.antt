-- What is seen of a simulation while a command runs: what stands at each moment of the trace, and until when.
use Rattle.std.specs.Prelude.{⊤, ℕ, List, Result, Ok, Err}
use Rattle.rtlsim_command_faults.specs.declared.faults.Fault.{Fault}
use Rattle.rtlsim_command_faults.specs.declared.faults.Fault.TheVariants.{Differs}
use Rattle.rtl_run.specs.Answered.{Admits}
use Rattle.rtl_run.specs.Watched.{IsToldRun}
use Rattle.rtl_net.specs.Nets.{NetlistView}
use Rattle.rtl_simulation.specs.Watched.{IsToldAll}
use Rattle.byte_streams.specs.Written.{SinkState}
use Rattle.rtl_stim.specs.Stimuli.{StimulusView, IsRead}
use Rattle.byte_streams.specs.Stands.{Stand}

-- This holds of the synchronous machine's valuations under the stimulus that the text says, in order of moments.
abbrev pub OfMachine : (text : List ℕ) → (Holds : List Stand → Type 0) → NetlistView → Type 0
OfMachine text Holds net = Admits net text (λ s bound. IsToldRun net s bound Holds)

-- This holds of what the moments of the simulation by events settle to under the stimulus that the text says, in
-- their order.
pub record OfEvents (text : List ℕ) (Holds : List Stand → Type 0) (net : NetlistView) : Type 0 where
  pub stimulus : StimulusView
  pub said : IsRead net text (Ok stimulus)
  pub all : IsToldAll net stimulus Holds

-- an answer that comes with the whole trace
abbrev pub IfWhole : {A : Type 0} → Result A Fault → (So : Type 0) → Type 0
IfWhole (Ok x) So = So
IfWhole (Err (Differs difference)) So = So
IfWhole (Err _) So = ⊤

-- The command does this, and where the whole trace went out, a watch has seen this.
pub record Watched {A : Type 0} (Does : NetlistView → Result A Fault → SinkState → SinkState → Type 0)
    (Sees : NetlistView → Type 0) (net : NetlistView)
    (answer : Result A Fault) (old new : SinkState) : Type 0 where
  pub does : Does net answer old new
  pub sees : IfWhole answer (Sees net)
