-- The table of signals by their full names.
use Rattle.std.specs.Prelude.{◌≡◌, ℕ, Vec, Option, bytes_eq, option_map}
use Rattle.std.specs.Global.{Global}
use Rattle.std.specs.HashMap.{HashMap, get_by}
use Rattle.rtl_net.specs.Nets.{NetlistView}
use Rattle.rtl_stim_lines.specs.Lines.{Word}
use Rattle.rtl_stim_lines.specs.Inputs.{small}
use Rattle.rtl_signal_names.specs.Names.{signal_named}

-- the number that a table has for a name, in letters of either case
abbrev pub kept_number : {S : Type 0} → HashMap (Vec ℕ Global) ℕ S → (name : Word) → Option ℕ
kept_number table name = get_by (λ key. bytes_eq (small name) key.items) table

-- it has for each name the number of the signal with that name
abbrev pub HasNumbers : {S : Type 0} → NetlistView → HashMap (Vec ℕ Global) ℕ S → Type 0
HasNumbers net table = (name : Word) → kept_number table name ≡ option_map (λ found. found.0) (signal_named net name)
