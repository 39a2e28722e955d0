-- What is seen of a command, and which faults it answers.
use Rattle.std.proofs.Common.{◌≡◌, ℕ, List, Option, Some, None, Result, Ok, Err, sym, subst}
use Rattle.std.specs.Prelude.{IfErr, IsErrAnd}
use Rattle.rtl_expect.specs.declared.difference.FirstDifferences.{FirstDifferences}
use Rattle.rtl_net.specs.Nets.{NetlistView}
use Rattle.byte_streams.specs.Written.{SinkState}
use Rattle.byte_streams.specs.Stands.{Stand}
use Rattle.rtlsim_command_faults.specs.declared.faults.Fault.{Fault}
use Rattle.rtlsim_command_faults.specs.declared.faults.Fault.TheVariants.{Lex, Syntax, Name, Elab, Differs, NoSettling}
use Rattle.rtlsim_commands.specs.Expected.{unless_differs}
use Rattle.rtlsim_commands.specs.Sights.{Sight, nothing, machine, events, Seen, Seeing, OfUnsettled, StuckIn, IsOfNet}
use Rattle.rtlsim_commands.specs.Watched.{IfWhole}
use Rattle.rtlsim_commands.proofs.Watched.{if_whole_so, of_events_so, of_machine_so}

-- what is so of the stands is so of what follows from it
pub seen_so : (sight : Sight) (net : NetlistView) (P Q : List Stand → Type 0) → ((stands : List Stand) → P stands → Q stands) → Seen sight P net → Seen sight Q net
seen_so nothing net P Q go h = tt
seen_so (machine text) net P Q go h = of_machine_so text net P Q go h
seen_so (events text) net P Q go h = of_events_so text net P Q go h

if_unseen : {A : Type 0} (answer : Result A Fault) (net : NetlistView) (P : List Stand → Type 0) → IfWhole answer (Seen nothing P net)
if_unseen (Ok x) net P = tt
if_unseen (Err (Lex x)) net P = tt
if_unseen (Err _) net P = tt

-- what the command does, and what is seen of it
module _ {A : Type 0} where
  pub seeing_does : (sight : Sight) (Does : NetlistView → Result A Fault → SinkState → SinkState → Type 0) (P : List Stand → Type 0) (net : NetlistView) (answer : Result A Fault) (old new : SinkState)
      → Seeing sight Does P net answer old new → Does net answer old new
  seeing_does nothing Does P net answer old new h = h
  seeing_does _ Does P net answer old new h = h.does

  pub seeing_sees : (sight : Sight) (Does : NetlistView → Result A Fault → SinkState → SinkState → Type 0) (P : List Stand → Type 0) (net : NetlistView) (answer : Result A Fault) (old new : SinkState)
      → Seeing sight Does P net answer old new → IfWhole answer (Seen sight P net)
  seeing_sees nothing Does P net answer old new h = if_unseen answer net P
  seeing_sees _ Does P net answer old new h = h.sees

  pub seeing_of : (sight : Sight) (Does : NetlistView → Result A Fault → SinkState → SinkState → Type 0) (P : List Stand → Type 0) (net : NetlistView) (answer : Result A Fault) (old new : SinkState)
      → Does net answer old new × IfWhole answer (Seen sight P net) → Seeing sight Does P net answer old new
  seeing_of nothing Does P net answer old new h = h.0
  seeing_of _ Does P net answer old new h = record { does = h.0; sees = h.1 }

  pub seeing_so : (sight : Sight) (Does : NetlistView → Result A Fault → SinkState → SinkState → Type 0) (P Q : List Stand → Type 0) (net : NetlistView) (answer : Result A Fault) (old new : SinkState)
      → ((stands : List Stand) → P stands → Q stands) → Seeing sight Does P net answer old new → Seeing sight Does Q net answer old new
  seeing_so sight Does P Q net answer old new go h =
      seeing_of sight Does Q net answer old new (
        seeing_does sight Does P net answer old new h,
        if_whole_so (Seen sight P net) (Seen sight Q net) answer (seen_so sight net P Q go) (seeing_sees sight Does P net answer old new h),
      )

  -- another command, between other states
  pub seeing_as : (sight : Sight) (Does As : NetlistView → Result A Fault → SinkState → SinkState → Type 0) (P : List Stand → Type 0) (net : NetlistView) (answer : Result A Fault)
      (old new from to : SinkState) → (Does net answer from to → As net answer old new) → Seeing sight Does P net answer from to → Seeing sight As P net answer old new
  seeing_as sight Does As P net answer old new from to go h =
      seeing_of sight As P net answer old new (go (seeing_does sight Does P net answer from to h), seeing_sees sight Does P net answer from to h)

-- ---- faults

-- what is so of it is so of what follows
pub of_unsettled_so : (text : List ℕ) (time : ℕ) (net : NetlistView) (P Q : List Stand → (before now : List ℕ) → (time : ℕ) → Type 0)
    → ((stands : List Stand) (before now : List ℕ) (at : ℕ) → P stands before now at → Q stands before now at) → OfUnsettled text time P net → OfUnsettled text time Q net
of_unsettled_so text time net P Q go h = record {
  stimulus = h.stimulus;
  said = h.said;
  first = record {
    stands = h.first.stands;
    are = h.first.are;
    more = h.first.more;
    is_at = h.first.is_at;
    never = h.first.never;
    stuck = go h.first.stands h.first.never.state.before h.first.never.state.now time h.first.stuck;
  };
}

stuck_so : (sight : Sight) (time : ℕ) (net : NetlistView) (P Q : List Stand → (before now : List ℕ) → (time : ℕ) → Type 0)
    → ((stands : List Stand) (before now : List ℕ) (at : ℕ) → P stands before now at → Q stands before now at) → StuckIn sight time P net → StuckIn sight time Q net
stuck_so (events text) time net P Q go h = of_unsettled_so text time net P Q go h
stuck_so _ time net P Q go h = absurd h

pub of_net_so : {A : Type 0} (sight : Sight) (net : NetlistView) (P Q : List Stand → (before now : List ℕ) → (time : ℕ) → Type 0) (answer : Result A Fault)
    → ((stands : List Stand) (before now : List ℕ) (at : ℕ) → P stands before now at → Q stands before now at)
    → IfErr answer (IsOfNet sight P net) → IfErr answer (IsOfNet sight Q net)
of_net_so sight net P Q (Ok x) go h = tt
of_net_so sight net P Q (Err (Lex x)) go h = absurd h
of_net_so sight net P Q (Err (Syntax x)) go h = absurd h
of_net_so sight net P Q (Err (Name x)) go h = absurd h
of_net_so sight net P Q (Err (Elab x)) go h = absurd h
of_net_so sight net P Q (Err (NoSettling time)) go h = stuck_so sight time net P Q go h
of_net_so sight net P Q (Err _) go h = tt

-- of an answer that is this fault
pub fault_by : {A : Type 0} (So : Fault → Type 0) (answer : Result A Fault) (fault : Fault) → IsErrAnd answer (λ f. f ≡ fault) → So fault → IfErr answer So
fault_by So (Ok x) fault is h = absurd is
fault_by So (Err f) fault is h = subst So (sym is) h

-- an answer that is compared
pub compared_fault : {A : Type 0} (So : Fault → Type 0) (answer : Result A Fault) (d : Option FirstDifferences) (result : Result A Fault) → ((differences : FirstDifferences) → So (Differs differences))
    → result ≡ unless_differs answer d → IfErr answer So → IfErr result So
compared_fault {A} So answer None result differs is h = subst (λ (r : Result A Fault). IfErr r So) (sym is) h
compared_fault {A} So (Ok x) (Some d) result differs is h = subst (λ (r : Result A Fault). IfErr r So) (sym is) (differs d)
compared_fault {A} So (Err f) (Some d) result differs is h = subst (λ (r : Result A Fault). IfErr r So) (sym is) h
