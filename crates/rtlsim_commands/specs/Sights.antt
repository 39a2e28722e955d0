-- What a watch sees of a command, and which faults a command answers.
use Rattle.std.specs.Prelude.{⊤, ℕ, List, Option, Some, None, Result, Ok}
use Rattle.rtl_net.specs.Nets.{NetlistView}
use Rattle.rtl_simulation.specs.Watched.{IsToldUnsettled}
use Rattle.byte_streams.specs.Written.{SinkState}
use Rattle.rtl_stim.specs.Stimuli.{StimulusView, IsRead}
use Rattle.byte_streams.specs.Stands.{Stand}
use Rattle.rtlsim_commands.specs.Simulated.{most_deltas}
use Rattle.rtlsim_commands.specs.Watched.{OfEvents, OfMachine, Watched}
use Rattle.rtlsim_command_faults.specs.declared.faults.Fault.{Fault}
use Rattle.rtlsim_command_faults.specs.declared.faults.Fault.TheVariants.{Lex, Syntax, Name, Elab, NoSettling}

-- nothing; or a run under the stimulus of this text: as a synchronous machine, or by events
pub data Sight : Type 0 where
  nothing : Sight
  machine : (text : List ℕ) → Sight
  events : (text : List ℕ) → Sight

-- this holds of what is seen
abbrev pub Seen : Sight → (Holds : List Stand → Type 0) → NetlistView → Type 0
Seen nothing Holds net = ⊤
Seen (machine text) Holds net = OfMachine text Holds net
Seen (events text) Holds net = OfEvents text Holds net

-- the command does this, and this holds of what is seen of it
abbrev pub Seeing : {A : Type 0} → Sight
    → (Does : NetlistView → Result A Fault → SinkState → SinkState → Type 0) → (Holds : List Stand → Type 0)
    → NetlistView → Result A Fault → (old new : SinkState) → Type 0
Seeing nothing Does Holds net answer old new = Does net answer old new
Seeing (machine text) Does Holds net answer old new = Watched Does (OfMachine text Holds) net answer old new
Seeing (events text) Does Holds net answer old new = Watched Does (OfEvents text Holds) net answer old new

-- the stimulus of a simulation by events
abbrev pub events_of : Sight → Option (List ℕ)
events_of (events text) = Some text
events_of _ = None

-- This holds of what settles before this time under the stimulus that the text says, and of the nets' values before the
-- last delta cycle allowed in the moment at this time, and after it.
pub record OfUnsettled (text : List ℕ) (time : ℕ)
    (Holds : List Stand → (before now : List ℕ) → (time : ℕ) → Type 0) (net : NetlistView) : Type 0 where
  pub stimulus : StimulusView
  pub said : IsRead net text (Ok stimulus)
  pub first : IsToldUnsettled net stimulus most_deltas time Holds

-- a moment at this time doesn't settle, as it may in a simulation by events alone, and this holds of it
abbrev pub StuckIn : Sight → (time : ℕ)
    → (Holds : List Stand → (before now : List ℕ) → (time : ℕ) → Type 0) → NetlistView → Type 0
StuckIn (events text) time Holds net = OfUnsettled text time Holds net
StuckIn _ time Holds net = ⊥

-- a fault that a command may answer: none of a source, and this holds of the moment that doesn't settle
abbrev pub IsOfNet : Sight → (Holds : List Stand → (before now : List ℕ) → (time : ℕ) → Type 0)
    → NetlistView → Fault → Type 0
IsOfNet sight Holds net (Lex fault) = ⊥
IsOfNet sight Holds net (Syntax fault) = ⊥
IsOfNet sight Holds net (Name fault) = ⊥
IsOfNet sight Holds net (Elab fault) = ⊥
IsOfNet sight Holds net (NoSettling time) = StuckIn sight time Holds net
IsOfNet sight Holds net _ = ⊤
