-- What a run answers that is compared with what is expected of it.
use Rattle.std.specs.Prelude.{◌≡◌, ◌⊎◌, ℕ, List, [], Option, Some, None, Result, Ok, Err, IfErr}
use Rattle.std.proofs.Common.{sym, subst, inl, inr}
use Rattle.rtlsim_command_faults.specs.declared.faults.Fault.{Fault}
use Rattle.rtlsim_command_faults.specs.declared.faults.Fault.TheVariants.{Expect, Differs, Untraced, Memory}
use Rattle.rtlsim_commands.specs.Machine.{as_answer}
use Rattle.rtlsim_commands.specs.Sights.{Sight, Seen}
use Rattle.rtlsim_commands.specs.Simulated.{ShowsEvents}
use Rattle.rtlsim_commands.specs.Tracing.{ChoiceView, whole, named, none, nowhere, ShowsChosen, Tracing}
use Rattle.rtl_expect.specs.Differences.{differences}
use Rattle.rtl_expect.specs.Expected.{Expectation, Positions}
use Rattle.rtl_expect.specs.Lines.{expectations_of}
use Rattle.rtl_expect.specs.Watching.{AreTold}
use Rattle.rtl_expect.specs.declared.difference.FirstDifferences.{FirstDifferences}
use Rattle.rtl_expect.specs.declared.faults.ExpectFault.TheVariants.{NoMemory}
use Rattle.rtl_run.specs.declared.fault.MachineFault.{MachineFault}
use Rattle.rtl_run.specs.declared.fault.MachineFault.TheVariants as machine
use Rattle.rtl_net.specs.Nets.{NetlistView, SignalView}
use Rattle.rtl_signal_names.specs.Chosen.{choice_of}
use Rattle.byte_streams.specs.Written.{SinkState}
use Rattle.byte_streams.specs.Stands.{Stand}
use Rattle.vhdl_literals.specs.Declarations.{positions_in}
use Rattle.vhdl_slips.specs.Words.{Read}

-- each line of the text is good, by these positions of literals, and of what the lines expect this holds
pub record Expects (positions : Positions) (net : NetlistView) (text : List ℕ)
    (Holds : List Expectation → Type 0) : Type 0 where
  pub expectations : List Expectation
  pub read : expectations_of positions net text ≡ Ok expectations
  pub holds : Holds expectations

-- A run, what is seen of its moments, and the positions of literals.
module _ {A : Type 0} (Runs : NetlistView → Result A Fault → (old new : SinkState) → Type 0)
    (Sees : (List Stand → Type 0) → NetlistView → Type 0) (positions : Positions) where
  -- the run comes to its end with the whole trace, and of what is expected this is what isn't so; None where all is so
  pub record RunsComparing (net : NetlistView) (answer : A) (old new : SinkState)
      (es : List Expectation) (found : Option FirstDifferences) : Type 0 where
    pub runs : Runs net (Ok answer) old new
    pub all : Sees (λ stands. AreTold found (differences stands es)) net

  abbrev pub RunsExpecting : (expected : List ℕ) → NetlistView → Result A Fault → (old new : SinkState) → Type 0
  RunsExpecting expected net (Ok x) old new = Expects positions net expected (λ es. RunsComparing net x old new es None)
  RunsExpecting expected net (Err (Differs d)) old new =
      Expects positions net expected (λ es. (x : A) × RunsComparing net x old new es (Some d))
  RunsExpecting expected net (Err (Expect NoMemory)) old new = ⊥
  -- the first bad line, before anything is simulated
  RunsExpecting expected net (Err (Expect fault)) old new =
      (expectations_of positions net expected ≡ Err fault) × (new ≡ old)
  -- memory may be refused before the run
  RunsExpecting expected net (Err Memory) old new =
      Expects positions net expected (λ es. Runs net (Err Memory) old new) ⊎ (new ≡ old)
  -- the run's own answer
  RunsExpecting expected net (Err fault) old new = Expects positions net expected (λ es. Runs net (Err fault) old new)

-- such a run, if what is expected is given; the source has the literals
abbrev pub Comparing : {A : Type 0} → Sight
    → (Runs : NetlistView → Result A Fault → SinkState → SinkState → Type 0) → (source : Read)
    → (expected : Option (List ℕ)) → NetlistView → Result A Fault → (old new : SinkState) → Type 0
Comparing sight Runs source None net answer old new = Runs net answer old new
Comparing sight Runs source (Some expected) net answer old new =
    RunsExpecting Runs (Seen sight) (positions_in source) expected net answer old new

-- the answer of a run, unless a value isn't the expected one
abbrev pub unless_differs : {A : Type 0} → Result A Fault → Option FirstDifferences → Result A Fault
unless_differs answer None = answer
unless_differs (Ok x) (Some differences) = Err (Differs differences)
unless_differs (Err fault) (Some differences) = Err fault

-- a fault of a run that isn't compared
abbrev pub IsOfRun : Fault → Type 0
IsOfRun (Expect fault) = ⊥
IsOfRun (Differs difference) = ⊥
IsOfRun fault = Unit {0}

-- ---- the runs that aren't compared answer such faults alone

machine_of_run : {A : Type 0} (given : Result A MachineFault) → IfErr (as_answer given) IsOfRun
machine_of_run (Err (machine.Rejected faults)) = tt
machine_of_run _ = tt

pub machine_unexpecting : {A : Type 0} (given : Result A MachineFault) (fault : Fault)
    → Err fault ≡ as_answer given → IsOfRun fault
machine_unexpecting {A} given fault is = subst (λ (r : Result A Fault). IfErr r IsOfRun) (sym is) (machine_of_run given)

pub events_unexpecting : (text : List ℕ) (names : List SignalView) (net : NetlistView) (fault : Fault)
    (old new : SinkState) → ShowsEvents text names net (Err fault) old new → IsOfRun fault
events_unexpecting text names net (Expect x) old new h = absurd h
events_unexpecting text names net (Differs x) old new h = absurd h
events_unexpecting text names net _ old new h = tt

-- by what is asked of the trace
module _ {A : Type 0}
    (Shows : (names : List SignalView) → NetlistView → Result A Fault → SinkState → SinkState → Type 0)
    (of_run : (names : List SignalView) (net : NetlistView) (fault : Fault) (old new : SinkState)
    → Shows names net (Err fault) old new → IsOfRun fault) where
  is_of_run : (answer : Result A Fault) (told : Fault) → answer ≡ Err told → IsOfRun told → IfErr answer IsOfRun
  is_of_run answer told is of = subst (λ (r : Result A Fault). IfErr r IsOfRun) (sym is) of

  chosen_unexpecting : (choice : Result (List SignalView) ℕ) (net : NetlistView) (fault : Fault) (old new : SinkState)
      → ShowsChosen Shows choice net (Err fault) old new → IsOfRun fault
  chosen_unexpecting (Ok names) net fault old new h = of_run names net fault old new h
  chosen_unexpecting (Err place) net fault old new h = is_of_run (Err fault) (Untraced place) h.0 tt

  pub tracing_unexpecting : (choice : ChoiceView) (net : NetlistView) (fault : Fault) (old new : SinkState)
      → Tracing choice Shows net (Err fault) old new → IsOfRun fault
  tracing_unexpecting whole net fault old new h = of_run net.signals net fault old new h
  tracing_unexpecting (named names) net fault old new (inl h) =
      chosen_unexpecting (choice_of names net) net fault old new h
  tracing_unexpecting (named names) net fault old new (inr h) = is_of_run (Err fault) Memory h.0 tt
  tracing_unexpecting none net fault old new h = of_run [] net fault nowhere nowhere h.0
