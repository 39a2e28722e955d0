-- What runs answer.
use Rattle.std.proofs.Common.{◌≡◌, ℕ, List, [], ◌∷◌, length, Result, Ok, Err, map, inl, inr, refl, sym, subst, ◌∙◌, arith}
use Rattle.std.specs.Global.{Global}
use Rattle.std.specs.Prelude.{IfOk, IfErr, IsErrAnd, Vec}
use Rattle.rtl_check.specs.Views.{fault_view}
use Rattle.rtl_check.specs.declared.fault.CheckFault.{CheckFault}
use Rattle.rtl_run.specs.declared.fault.MachineFault.{MachineFault}
use Rattle.rtl_run.specs.declared.fault.MachineFault.TheVariants as machine
use Rattle.rtl_model.specs.simulation.Faults.{AreStored}
use Rattle.rtl_net.specs.Core.{core}
use Rattle.rtl_net.specs.Nets.{NetlistView, SignalView}
use Rattle.rtl_simulation.specs.Answered.{Answers}
use Rattle.rtl_simulation.specs.Watched.{WasTold}
use Rattle.rtl_simulation.specs.declared.summary.RunFault.{RunFault}
use Rattle.rtl_simulation.specs.declared.summary.RunFault.TheVariants as run
use Rattle.rtl_simulation.specs.declared.summary.Summary.{Summary}
use Rattle.byte_streams.specs.Written.{SinkState}
use Rattle.rtl_stim.specs.Stimuli.{StimulusView, IsRead}
use Rattle.rtl_stim_lines.specs.declared.faults.StimFault.{StimFault}
use Rattle.rtl_stim_lines.specs.declared.faults.StimFault.TheVariants as stim
use Rattle.byte_streams.specs.Stands.{Stand}
use Rattle.rtlsim_command_faults.specs.Faults.{of_run, of_stim}
use Rattle.rtlsim_command_faults.specs.declared.faults.Fault.{Fault}
use Rattle.rtlsim_command_faults.specs.declared.faults.Fault.TheVariants.{Lex, Syntax, Name, Elab, Rejected, Stim, Differs, NoSettling, Memory, Output}
use Rattle.rtlsim_commands.specs.Sights.{events, IsOfNet}
use Rattle.rtlsim_commands.specs.Simulated.{HasNoneStored, RefusesStored, Simulates, ShowsEvents, most_deltas}
use Rattle.rtlsim_commands.specs.Machine.{as_answer}
use Rattle.rtlsim_commands.specs.Watched.{IfWhole, Watched}
use Rattle.rtlsim_commands.proofs.Watched.{machine_part}

-- ---- the synchronous machine's faults

pub as_machine : {A : Type 0} (So : Fault → Type 0) (given : Result A MachineFault) (answer : Result A Fault) → ((faults : Vec CheckFault Global) → So (Rejected faults))
    → ((stim : StimFault) → So (Stim stim)) → So Memory → So Output → answer ≡ as_answer given → IfErr answer So
as_machine So (Ok x) answer rejected stim memory output is = rw is tt
as_machine So (Err (machine.Rejected faults)) answer rejected stim memory output is = rw is (rejected faults)
as_machine So (Err (machine.Stim fault)) answer rejected stim memory output is = rw is (stim fault)
as_machine So (Err machine.Memory) answer rejected stim memory output is = rw is memory
as_machine So (Err machine.Output) answer rejected stim memory output is = rw is output

-- what is seen of it
pub watched_machine : {A : Type 0} (Does : NetlistView → Result A Fault → SinkState → SinkState → Type 0) (Sees : NetlistView → Type 0) (net : NetlistView) (given : Result A MachineFault)
    (answer : Result A Fault) (old new : SinkState) → Does net answer old new → answer ≡ as_answer given → IfOk given (λ _. Sees net) → Watched Does Sees net answer old new
watched_machine Does Sees net (Ok x) answer old new does is told = record { does = does; sees = rw is told }
watched_machine {A} Does Sees net (Err fault) answer old new does is told = record { does = does; sees = rw is (machine_part A fault (Sees net)) }

-- ---- a simulation by events

pub run_fault : (Holds : List Stand → (before now : List ℕ) → (time : ℕ) → Type 0) (net : NetlistView) (text : List ℕ) (s : StimulusView) (Told : List Stand → Type 0) (fault : RunFault)
    → IsRead net text (Ok s) → WasTold net s most_deltas Told Holds fault → IsOfNet (events text) Holds net (of_run fault)
run_fault Holds net text s Told (run.NoSettling time) said h = record { stimulus = s; said = said; first = h }
run_fault Holds net text s Told _ said h = tt

-- no variable is stored
pub none_stored : (net : NetlistView) (faults : List CheckFault) (count : ℕ) → AreStored (core net) (map fault_view faults) → count ≡ length faults → count ≡ 0 → HasNoneStored net
none_stored net [] count h is none = h
none_stored net (f ∷ fs) count h is none = let some = sym is ∙ none in absurd (omega (arith, some))

-- what a simulation answers, where it began
pub began : (text : List ℕ) (names : List SignalView) (net : NetlistView) (s : StimulusView) (answer : Result Summary RunFault) (old new : SinkState) → HasNoneStored net → IsRead net text (Ok s)
    → Answers net names s most_deltas old new answer → Simulates text names net answer old new
began text names net s answer old new none said answers = record { none_stored = none; stimulus = s; said = said; answers = answers }

pub failed_run : (text : List ℕ) (names : List SignalView) (net : NetlistView) (fault : RunFault) (old new : SinkState) → Simulates text names net (Err fault) old new
    → ShowsEvents text names net (Err (of_run fault)) old new
failed_run text names net run.Memory old new h = inl h
failed_run text names net _ old new h = h

-- a netlist with stored variables, or want of memory for them: nothing is written
pub refused : (text : List ℕ) (names : List SignalView) (net : NetlistView) (fault : Fault) (old : SinkState) → RefusesStored net (Err fault) → ShowsEvents text names net (Err fault) old old
refused text names net (Rejected x) old h = (h.0, h.1, refl)
refused text names net Memory old h = inr refl
refused text names net _ old h = absurd h

pub refused_part : (net : NetlistView) (fault : Fault) (So : Type 0) → RefusesStored net (Err fault) → IfWhole {A = Summary} (Err fault) So
refused_part net (Differs x) So h = absurd h
refused_part net _ So h = tt

pub refused_fault : (text : List ℕ) (Holds : List Stand → (before now : List ℕ) → (time : ℕ) → Type 0) (net : NetlistView) (fault : Fault) → RefusesStored net (Err fault)
    → IsOfNet (events text) Holds net fault
refused_fault text Holds net (Lex x) h = absurd h
refused_fault text Holds net (Syntax x) h = absurd h
refused_fault text Holds net (Name x) h = absurd h
refused_fault text Holds net (Elab x) h = absurd h
refused_fault text Holds net (NoSettling x) h = absurd h
refused_fault text Holds net _ h = tt

-- want of memory for the stored variables
pub unknown_stored : (net : NetlistView) (answer : Result (Unit {0}) Fault) → IsErrAnd answer (λ f. f ≡ Memory) → RefusesStored net answer
unknown_stored net (Ok x) is = absurd is
unknown_stored net (Err f) is = let So : Fault → Type 0 = λ f. RefusesStored net (Err f) in subst So (sym is) tt

-- a stimulus that isn't read
pub unread : (text : List ℕ) (names : List SignalView) (net : NetlistView) (fault : StimFault) (old : SinkState) → HasNoneStored net → IsRead net text (Err fault)
    → ShowsEvents text names net (Err (of_stim fault)) old old
unread text names net stim.NoMemory old none read = inr refl
unread text names net _ old none read = (none, read (λ e. cc), refl)

pub unread_part : (fault : StimFault) (So : Type 0) → IfWhole {A = Summary} (Err (of_stim fault)) So
unread_part stim.NoMemory So = tt
unread_part _ So = tt

pub unread_fault : (text : List ℕ) (Holds : List Stand → (before now : List ℕ) → (time : ℕ) → Type 0) (net : NetlistView) (fault : StimFault) → IsOfNet (events text) Holds net (of_stim fault)
unread_fault text Holds net stim.NoMemory = tt
unread_fault text Holds net _ = tt
