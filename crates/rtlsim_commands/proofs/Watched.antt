-- What is seen of a simulation.
use Rattle.std.proofs.Common.{◌≡◌, ℕ, List, Result, Ok, Err, sym, subst}
use Rattle.std.specs.Prelude.{IsErrAnd}
use Rattle.rtlsim_commands.specs.Watched.{OfMachine, OfEvents, IfWhole, Watched}
use Rattle.rtlsim_command_faults.specs.Faults.{of_machine, of_run}
use Rattle.rtlsim_command_faults.specs.declared.faults.Fault.{Fault}
use Rattle.rtlsim_command_faults.specs.declared.faults.Fault.TheVariants.{Differs}
use Rattle.rtl_run.specs.declared.fault.MachineFault.{MachineFault}
use Rattle.rtl_run.specs.declared.fault.MachineFault.TheVariants as machine
use Rattle.rtl_net.specs.Nets.{NetlistView}
use Rattle.rtl_simulation.specs.declared.summary.RunFault.{RunFault}
use Rattle.rtl_simulation.specs.declared.summary.RunFault.TheVariants as run
use Rattle.byte_streams.specs.Written.{SinkState}
use Rattle.byte_streams.specs.Stands.{Stand}

-- what is so of the stands is so of what follows from it
pub of_machine_so : (text : List ℕ) (net : NetlistView) (P Q : List Stand → Type 0) → ((stands : List Stand) → P stands → Q stands) → OfMachine text P net → OfMachine text Q net
of_machine_so text net P Q go h = record {
  bound = h.bound;
  stimulus = h.stimulus;
  admitted = h.admitted;
  done = record {
    run = h.done.run;
    synchronous = h.done.synchronous;
    stands = h.done.stands;
    are = h.done.are;
    all = h.done.all;
    told = go h.done.stands h.done.told;
  };
}

pub of_events_so : (text : List ℕ) (net : NetlistView) (P Q : List Stand → Type 0) → ((stands : List Stand) → P stands → Q stands) → OfEvents text P net → OfEvents text Q net
of_events_so text net P Q go h = record {
  stimulus = h.stimulus;
  said = h.said;
  all = record { stands = h.all.stands; are = h.all.are; all = h.all.all; told = go h.all.stands h.all.told };
}

-- ---- faults that end a run come without the whole trace

pub machine_part : (A : Type 0) (fault : MachineFault) (So : Type 0) → IfWhole {A = A} (Err (of_machine fault)) So
machine_part A machine.Memory So = tt
machine_part A _ So = tt

pub run_part : (A : Type 0) (fault : RunFault) (So : Type 0) → IfWhole {A = A} (Err (of_run fault)) So
run_part A run.Memory So = tt
run_part A _ So = tt

pub watched_failed : {A : Type 0} (Does : NetlistView → Result A Fault → SinkState → SinkState → Type 0) (So : Type 0) (net : NetlistView) (answer : Result A Fault) (fault : Fault)
    (old new : SinkState) → IsErrAnd answer (λ f. f ≡ fault) → Does net (Err fault) old new → IfWhole {A = A} (Err fault) So → Does net answer old new × IfWhole answer So
watched_failed Does So net (Ok x) fault old new h does part = absurd h
watched_failed {A} Does So net (Err f) fault old new h does part =
    let P : Fault → Type 0 = λ x. Does net (Err x) old new × IfWhole {A = A} (Err x) So in subst P (sym h) (does, part)

pub watched_so : {A : Type 0} (Does : NetlistView → Result A Fault → SinkState → SinkState → Type 0) (Sees : NetlistView → Type 0) (net : NetlistView) (answer : Result A Fault)
    (old new : SinkState) → Does net answer old new × IfWhole answer (Sees net) → Watched Does Sees net answer old new
watched_so Does Sees net answer old new h = record { does = h.0; sees = h.1 }

-- what is so of it is so of what follows
pub if_whole_so : {A : Type 0} (P Q : Type 0) (answer : Result A Fault) → (P → Q) → IfWhole answer P → IfWhole answer Q
if_whole_so P Q (Ok x) go h = go h
if_whole_so P Q (Err (Differs x)) go h = go h
if_whole_so P Q (Err _) go h = tt
