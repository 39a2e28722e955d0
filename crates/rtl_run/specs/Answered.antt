-- What `run_watched` and `eval` answer on a netlist: nothing is written before the checker, the stimulus and the search
-- for a race have passed.
use Rattle.std.specs.Prelude.{◌≡◌, ℕ, ◌⊎◌, List, Result, Err}
use Rattle.rtl_net.specs.Nets.{NetlistView, SignalView}
use Rattle.byte_streams.specs.Written.{SinkState}
use Rattle.rtl_stim.specs.Stimuli.{StimulusView}
use Rattle.rtl_simulation.specs.declared.summary.Summary.{Summary}
use Rattle.rtl_run.specs.declared.fault.MachineFault.{MachineFault}
use Rattle.rtl_run.specs.Traced.{Traces}
use Rattle.rtl_run.specs.Admitted.{IsAdmitted, RefusesNet}

-- the netlist and the stimulus are admitted, and this is done with them
pub record Admits (net : NetlistView) (text : List ℕ) (Done : StimulusView → (bound : ℕ) → Type 0) : Type 0 where
  pub bound : ℕ
  pub stimulus : StimulusView
  pub admitted : IsAdmitted net text bound stimulus
  pub done : Done stimulus bound

-- they are refused, and nothing is written
pub record IsNetRefused {A : Type 0} (net : NetlistView) (text : List ℕ) (old new : SinkState)
    (answer : Result A MachineFault) : Type 0 where
  pub fault : MachineFault
  pub is : answer ≡ Err fault
  pub why : RefusesNet net text fault
  pub nothing : new ≡ old

-- Where the checker says yes with a bound and the stimulus has no race, the trace of these signals of the synchronous
-- machine's run is written, and each moment settles within the bound, whatever the orders of processes. Else the
-- refusal says why.
abbrev pub RunsNet : NetlistView → (names : List SignalView) → (text : List ℕ) → (old new : SinkState)
    → Result Summary MachineFault → Type 0
RunsNet net names text old new answer =
    Admits net text (λ s bound. Traces net names s bound old new answer) ⊎ IsNetRefused net text old new answer
