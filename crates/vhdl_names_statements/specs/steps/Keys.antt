-- What tells choices apart, one after another. Integers are told apart where they are computed.
use Rattle.std.specs.Prelude.{Bool, false, List, [], ◌∷◌, map, filter_map, Option, Some, None}
use Rattle.vhdl_values.specs.Scalar.{code_of}
use Rattle.vhdl_names_rules.specs.units.Statements.{Choice, values, position, numbers}
use Rattle.vhdl_names_rules.specs.Visibility.{Name, is_among}
use Rattle.vhdl_names_units.specs.Once.{one_name}

-- numbers that tell a choice apart
abbrev pub key_of : Choice → Option Name
key_of (values vs) = Some (map code_of vs)
key_of (position p) = Some (9 ∷ p ∷ [])
key_of (numbers i) = None

abbrev pub keys_of : List Choice → List Name
keys_of cs = filter_map key_of cs

-- whether a choice stands among those of these keys
abbrev pub is_taken : List Name → Choice → Bool
is_taken keys c = by (key_of c)
  where
    by : Option Name → Bool
    by None = false
    by (Some k) = is_among k keys

-- with one more choice, which none before it is
abbrev pub one_choice : List Name → Choice → Option (List Name)
one_choice keys c = by (key_of c)
  where
    by : Option Name → Option (List Name)
    by None = Some keys
    by (Some k) = one_name keys k
