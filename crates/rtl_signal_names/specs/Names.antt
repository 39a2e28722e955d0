-- The full name of a signal within the top: the labels of the instances that lead to it from the top, and its own name,
-- joined by dots. A signal of the top has its own name alone.
use Rattle.std.specs.Prelude.{ℕ, zero, suc, Bool, if◌then◌else◌, List, [], ◌∷◌, ◌++◌, Option, Some, None, bytes_eq, codes}
use Rattle.rtl_net.specs.Nets.{NetlistView, ScopeView, SignalView, label_at, parent_of}
use Rattle.rtl_stim_lines.specs.Inputs.{small}
use Rattle.rtl_stim_lines.specs.Lines.{Word}

-- the scope's label and a dot, behind those of the scopes round it; nothing for the top, which stands in no other scope
abbrev pub labels_behind : (labels_of : ℕ → List ℕ) → (parent : Option ℕ) → (label : List ℕ) → List ℕ
labels_behind labels_of None label = []
labels_behind labels_of (Some p) label = labels_of p ++ label ++ codes "."

-- the same, with so many steps up at most
abbrev pub labels_within : (steps : ℕ) → List ScopeView → (scope : ℕ) → List ℕ
labels_within zero scopes k = []
labels_within (suc steps) scopes k = labels_behind (labels_within steps scopes) (parent_of scopes k) (label_at scopes k)

-- The labels from the top to a scope, each before a dot. A parent's number is less than its scope's: as many steps as
-- that lead to the top.
abbrev pub labels : List ScopeView → (scope : ℕ) → List ℕ
labels scopes k = labels_within k scopes k

abbrev pub full_name : List ScopeView → SignalView → List ℕ
full_name scopes s = labels scopes s.scope ++ s.name

-- two names are the same, in letters of either case
abbrev pub are_alike : List ℕ → List ℕ → Bool
are_alike name other = bytes_eq (small name) (small other)

-- ---- the signal with a name

-- the name is the full name of the port or signal, in letters of either case
abbrev pub is_named : List ScopeView → (name : Word) → SignalView → Bool
is_named scopes name s = are_alike name (full_name scopes s)

-- of these signals, the first of which has this number, the first with the name, and its number
abbrev pub signal_from : List ScopeView → (number : ℕ) → List SignalView → (name : Word) → Option (ℕ × SignalView)
signal_from scopes number [] name = None
signal_from scopes number (s ∷ ss) name =
    if is_named scopes name s then Some (number, s) else signal_from scopes (suc number) ss name

abbrev pub signal_named : NetlistView → (name : Word) → Option (ℕ × SignalView)
signal_named net name = signal_from net.scopes 0 net.signals name
