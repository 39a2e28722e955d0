-- What a simulation of an accepted netlist under a stimulus without a race answers, and what it has written by then.
use Rattle.std.specs.Prelude.{◌≡◌, ℕ, suc, pred, ◌≤◌, List, [], ◌∷◌, length, Result, Ok, Err}
use Rattle.rtl_model.specs.simulation.Moments.{IsMost}
use Rattle.rtl_net.specs.Nets.{NetlistView, SignalView}
use Rattle.byte_streams.specs.Written.{SinkState, IsIntact, HasFailed, TakesAll, TakesBeginning}
use Rattle.rtl_vcd.specs.Trace.{Moment, trace_text}
use Rattle.rtl_stim.specs.Stimuli.{StimulusView, moments, inputs_at}
use Rattle.rtl_simulation.specs.declared.summary.Summary.{Summary}
use Rattle.rtl_net.specs.Core.{core}
use Rattle.rtl_simulation.specs.Traced.{behind_first}
use Rattle.rtl_run.specs.declared.fault.MachineFault.{MachineFault}
use Rattle.rtl_run.specs.declared.fault.MachineFault.TheVariants.{Memory, Output}
use Rattle.rtl_run.specs.Synchronous.{IsSynchronous}

-- the valuations of a run at these times, one after another
abbrev pub run_at : (run : ℕ → List ℕ) → (times : List ℕ) → List Moment
run_at run [] = []
run_at run (t ∷ times) = record { time = t; values = run 0 } ∷ run_at (λ m. run (suc m)) times

-- the whole trace of these signals of a machine's run under a stimulus (IEEE 1364-2005, clause 18)
abbrev pub machine_text : NetlistView → (names : List SignalView) → StimulusView → (run : ℕ → List ℕ) → List ℕ
machine_text net names s run =
    trace_text net.scopes names (run 0) (run_at (λ m. run (suc m)) (behind_first (moments s))) s.schedule.stop

module _ (net : NetlistView) (names : List SignalView) (s : StimulusView) (bound : ℕ) where
  -- the netlist is a synchronous machine under the stimulus, and this is the trace of these signals of its run
  pub record IsTrace (text : List ℕ) : Type 0 where
    pub run : ℕ → List ℕ
    pub synchronous : IsSynchronous (core net) bound (inputs_at s) run
    pub is : text ≡ machine_text net names s run

  -- the whole trace went out, of so many moments
  pub record TracesMoments (old new : SinkState) (count : ℕ) : Type 0 where
    pub text : List ℕ
    pub trace : IsTrace text
    pub taken : TakesAll old new text
    pub intact : IsIntact new
    pub count_is : count ≡ length (moments s)

  -- The summary tells how many moments there were, and the greatest number of delta cycles that one takes, whatever the
  -- orders of processes: it is within the bound.
  pub record TracesAll (old new : SinkState) (summary : Summary) : Type 0 where
    pub all : TracesMoments old new summary.moments
    pub most : IsMost (core net) (inputs_at s) (pred (length (moments s))) summary.most_deltas
    pub within : summary.most_deltas ≤ bound

  -- a beginning of the trace went out
  pub record TracesBeginning (old new : SinkState) : Type 0 where
    pub text : List ℕ
    pub trace : IsTrace text
    pub taken : TakesBeginning old new text

  -- Each moment settles, so nothing but memory and the output can fail.
  abbrev pub Leaves : (old new : SinkState) → MachineFault → Type 0
  Leaves old new Memory = TracesBeginning old new × IsIntact new
  Leaves old new Output = TracesBeginning old new × HasFailed new
  Leaves old new _ = ⊥

  -- what of the trace went out where this is the answer
  abbrev pub Traces : (old new : SinkState) → Result Summary MachineFault → Type 0
  Traces old new (Ok summary) = TracesAll old new summary
  Traces old new (Err fault) = Leaves old new fault
