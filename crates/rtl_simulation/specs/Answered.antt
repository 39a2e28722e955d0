-- What a simulation answers, and what it has written by then.
use Rattle.std.specs.Prelude.{◌≡◌, ℕ, pred, ◌<◌, ◌⊎◌, List, length, slice_index, Result, Ok, Err}
use Rattle.rtl_model.specs.simulation.Moments.{IsMost}
use Rattle.rtl_net.specs.Nets.{NetlistView, SignalView}
use Rattle.byte_streams.specs.Written.{SinkState, IsIntact, HasFailed, Goes, TakesBeginning}
use Rattle.rtl_stim.specs.Stimuli.{StimulusView, moments, inputs_at}
use Rattle.rtl_simulation.specs.declared.summary.Summary.{Summary}
use Rattle.rtl_simulation.specs.declared.summary.RunFault.{RunFault}
use Rattle.rtl_simulation.specs.declared.summary.RunFault.TheVariants.{NoSettling, Memory, Output}
use Rattle.rtl_net.specs.Core.{core}
use Rattle.rtl_simulation.specs.Simulated.{Settled, AreMoments, NeverSettles}
use Rattle.rtl_simulation.specs.Traced.{text_so_far, whole_text}

-- the trace of these signals at these moments, or the whole where they are all
abbrev pub IsTextOf : NetlistView → (names : List SignalView) → StimulusView → List Settled → (text : List ℕ) → Type 0
IsTextOf net names s settled text =
    (text ≡ text_so_far net names s settled)
    ⊎ ((length settled ≡ length (moments s)) × (text ≡ whole_text net names s settled))

module _ (net : NetlistView) (names : List SignalView) (s : StimulusView) (limit : ℕ) (old new : SinkState) where
  -- Each moment settles within the limit, there are so many, and the whole trace went out.
  pub record WritesAll (count : ℕ) : Type 0 where
    pub settled : List Settled
    pub are : AreMoments net s limit settled
    pub all : length settled ≡ length (moments s)
    pub text : Goes old new (whole_text net names s settled)
    pub intact : IsIntact new
    pub count_is : count ≡ length settled

  -- The summary tells the number of moments and the greatest number of delta cycles that one takes.
  pub record IsWhole (summary : Summary) : Type 0 where
    pub all : WritesAll summary.moments
    pub most : IsMost (core net) (inputs_at s) (pred summary.moments) summary.most_deltas

  -- The moments before this time settle, and their trace went out; the moment at this time doesn't settle.
  pub record StopsAt (time : ℕ) : Type 0 where
    pub settled : List Settled
    pub are : AreMoments net s limit settled
    pub more : length settled < length (moments s)
    pub is_at : slice_index (moments s) (length settled) ≡ time
    pub never : NeverSettles net s limit (length settled)
    pub text : Goes old new (text_so_far net names s settled)
    pub intact : IsIntact new

  -- A beginning of the trace of some of the moments went out, or of the whole trace.
  pub record LeavesBeginning : Type 0 where
    pub settled : List Settled
    pub are : AreMoments net s limit settled
    pub text : List ℕ
    pub is : IsTextOf net names s settled text
    pub taken : TakesBeginning old new text

  -- what has gone out where the simulation ends in this fault
  abbrev pub Fails : RunFault → Type 0
  Fails (NoSettling time) = StopsAt time
  Fails Memory = LeavesBeginning × IsIntact new
  Fails Output = LeavesBeginning × HasFailed new

  -- what has gone out, and what the summary tells, where the simulation answers this
  abbrev pub Answers : Result Summary RunFault → Type 0
  Answers (Ok summary) = IsWhole summary
  Answers (Err fault) = Fails fault
