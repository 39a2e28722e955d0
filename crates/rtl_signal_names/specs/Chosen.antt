-- The signals that names choose: the one that has a name as its full name, and all that stand below the instance, or
-- the generate's turn, that has it. Letters are of either case.
use Rattle.std.specs.Prelude.{ℕ, suc, ◌==◌, ◌||◌, Bool, if◌then◌else◌, List, [], ◌∷◌, ◌++◌, length, map, take, filter, Option, Some, None, Result, Ok, Err, Vec, codes}
use Rattle.std.specs.List.{list_any}
use Rattle.std.specs.Global.{Global}
use Rattle.rtl_net.specs.declared.signal.Signal.{Signal}
use Rattle.rtl_net.specs.Nets.{NetlistView, ScopeView, SignalView, signal_view}
use Rattle.rtl_stim_lines.specs.Lines.{Word}
use Rattle.rtl_signal_names.specs.Names.{are_alike, full_name}

-- the name begins with this
abbrev pub begins_alike : (front name : Word) → Bool
begins_alike front name = are_alike front (take (length front) name)

abbrev pub chooses : (name full : Word) → Bool
chooses name full = are_alike name full || begins_alike (name ++ codes ".") full

abbrev pub is_chosen : (names : List Word) → List ScopeView → SignalView → Bool
is_chosen names scopes s = list_any (λ name. chooses name (full_name scopes s)) names

-- the signal, if they choose it
abbrev pub if_chosen : (names : List Word) → List ScopeView → SignalView → List SignalView
if_chosen names scopes s = if is_chosen names scopes s then s ∷ [] else []

-- in order of declaration
abbrev pub chosen : (names : List Word) → NetlistView → List SignalView
chosen names net = filter (is_chosen names net.scopes) net.signals

-- the first name that chooses none of the signals, by its place; the first of these names has this place
abbrev pub idle_from : (place : ℕ) → (names : List Word) → NetlistView → Option ℕ
idle_from place [] net = None
idle_from place (name ∷ names) net =
    if length (chosen (name ∷ []) net) == 0 then Some place else idle_from (suc place) names net

abbrev pub chosen_unless : (idle : Option ℕ) → List SignalView → Result (List SignalView) ℕ
chosen_unless None signals = Ok signals
chosen_unless (Some place) signals = Err place

-- what they choose, or the place, from 1, of the first that chooses nothing
abbrev pub choice_of : (names : List Word) → NetlistView → Result (List SignalView) ℕ
choice_of names net = chosen_unless (idle_from 1 names net) (chosen names net)

-- what a call answers, as contracts see it
abbrev pub as_views : Result (Vec Signal Global) ℕ → Result (List SignalView) ℕ
as_views (Ok found) = Ok (map signal_view found.items)
as_views (Err place) = Err place
