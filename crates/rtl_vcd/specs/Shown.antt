-- Names that are shown of a netlist, and what calls that print them ask of their order.
use Rattle.std.specs.Prelude.{ℕ, ◌<◌, ◌≤◌, AllPairs, List, length, map, slice_index_or}
use Rattle.rtl_net.specs.declared.signal.Signal.{Signal}
use Rattle.rtl_net.specs.declared.shown.Shown.{Shown}
use Rattle.rtl_net.specs.Nets.{NetlistView, SignalView, signal_view}

-- a netlist, and the names that are shown of it
pub record ShownView : Type 0 where
  pub net : NetlistView
  pub signals : List SignalView

abbrev pub shown_of : Shown → ShownView
shown_of s = record { net = s.net.now; signals = map signal_view s.signals.now }

-- names stand in order of their scopes
abbrev pub StandInOrder : List Signal → Type 0
StandInOrder signals = AllPairs (λ (s t : Signal). s.scope ≤ t.scope) signals

-- of these names, those before the place stand in lower scopes, and those from there on in this one or in higher ones
pub record StartsScope (signals : List Signal) (scope place : ℕ) : Type 0 where
  pub within : place ≤ length signals
  pub before : (i : ℕ) (d : Signal) → i < place → (slice_index_or signals i d).scope < scope
  pub behind : (i : ℕ) (d : Signal) → place ≤ i → i < length signals → scope ≤ (slice_index_or signals i d).scope
