-- What laws say of lists of names.
use Rattle.std.specs.Prelude.{◌≡◌, ℕ, List, slice_get, Some}
use Rattle.vhdl_names_rules.specs.Visibility.{Name}

-- no name stands at two places
abbrev pub StandOnce : List Name → Type 0
StandOnce ns = (i j : ℕ) (n : Name) → slice_get ns i ≡ Some n → slice_get ns j ≡ Some n → i ≡ j
