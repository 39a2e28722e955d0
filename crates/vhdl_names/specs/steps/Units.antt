-- The units of a file, of its entities and their architectures.
use Rattle.std.specs.Prelude.{List, [], ◌∷◌, Option, None, drop}
use Rattle.vhdl_names_rules.specs.units.Units as u
use Rattle.vhdl_names_rules.specs.Interfaces.{EntityView}

abbrev pub with_architecture : EntityView → Option u.Architecture → u.Entity
with_architecture e a =
    record { at = e.at; name = e.name; generics = e.interface.generics; ports = e.interface.ports; architecture = a }

abbrev pub first : {A : Type 0} → List (Option A) → Option A
first [] = None
first (x ∷ xs) = x

-- entities with their architectures, in order
abbrev pub joined : List EntityView → List (Option u.Architecture) → List u.Entity
joined [] as' = []
joined (e ∷ es) as' = with_architecture e (first as') ∷ joined es (drop 1 as')
