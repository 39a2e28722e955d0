-- The signal whose full name is nearest to one that no signal has.
use Rattle.std.specs.Prelude.{ℕ, ◌+◌, ◌-◌, ◌*◌, ◌==◌, ◌&&◌, nat_lt, min, max, Bool, if◌then◌else◌, List, [], ◌∷◌, ◌++◌, take, drop, length, map, reverse, find, slice_index, codes, Option, Some, None}
use Rattle.rtl_net.specs.Nets.{NetlistView, label_at}
use Rattle.rtl_signal_names.specs.Names.{are_alike, full_name}
use Rattle.rtlsim_nearest.specs.declared.likeness.Way.{Way}
use Rattle.rtlsim_nearest.specs.declared.likeness.Way.TheVariants.{OneLetter, TwoLetters, BehindTop, Unlabelled}
use Rattle.vhdl_parser_rules.specs.Near.{is_same_letter}

-- ---- letters

-- how many letters both begin with
abbrev pub shared : (name other : List ℕ) → ℕ
shared [] other = 0
shared (a ∷ name) [] = 0
shared (a ∷ name) (b ∷ other) = if is_same_letter a b then 1 + shared name other else 0

-- how many letters of the longer one stand between those that both begin with and those that both end with
abbrev pub between : (name other : List ℕ) → ℕ
between name other =
    max (length name) (length other)
    - min (shared name other + shared (reverse name) (reverse other)) (min (length name) (length other))

-- they are so many, and fewer than half of the name
abbrev pub differs_by : (count : ℕ) → (name other : List ℕ) → Bool
differs_by count name other = between name other == count && nat_lt (2 * count) (length name)

-- ---- labels

-- a name ends in a dot and another one; `.` is 46
abbrev pub stands_last : (other name : List ℕ) → Bool
stands_last other name =
    nat_lt (length other) (length name) && slice_index name (length name - length other - 1) == 46
    && are_alike other (drop (length name - length other) name)

-- and the top's name stands before these
abbrev pub is_behind_top : (top name other : List ℕ) → Bool
is_behind_top top name other = stands_last other name && are_alike top (take (length name - length other - 1) name)

-- ---- the nearest

-- a name is like a full name in this way
abbrev pub is_like : Way → (top name full : List ℕ) → Bool
is_like OneLetter top name full = differs_by 1 name full
is_like TwoLetters top name full = differs_by 2 name full
is_like BehindTop top name full = is_behind_top top name full
is_like Unlabelled top name full = stands_last name full

-- the first signal's that is like it in this way
abbrev pub first_like : NetlistView → (name : List ℕ) → Way → Option (List ℕ)
first_like net name way = find (is_like way (label_at net.scopes 0) name) (map (full_name net.scopes) net.signals)

abbrev pub or_else : Option (List ℕ) → (other : List ℕ) → List ℕ
or_else None other = other
or_else (Some name) other = name

-- in the first way in which one is; nothing where none is
abbrev pub nearest : NetlistView → (name : List ℕ) → List ℕ
nearest net name =
    let like = first_like net name in
    or_else (like OneLetter) (or_else (like TwoLetters) (or_else (like BehindTop) (or_else (like Unlabelled) [])))

abbrev pub line_of : (nearest : List ℕ) → List ℕ
line_of [] = []
line_of (letter ∷ name) = codes "nearest: " ++ (letter ∷ name) ++ codes "\n"

-- the line that names it, or nothing
abbrev pub nearest_line : NetlistView → (name : List ℕ) → List ℕ
nearest_line net name = line_of (nearest net name)
