-- What a name is declared to be in one list of declarations (IEEE 1076-2008, 12.3).
use Rattle.std.specs.Prelude.{List, find, Option, bytes_eq}
use Rattle.vhdl_names_rules.specs.Visibility.{Name, Declared}

-- the first declaration of the name
abbrev pub found : List Declared → Name → Option Declared
found ds n = find (λ d. bytes_eq n d.name) ds
