-- The first of two declarations, or associations, of one name, by the second.
use Rattle.std.specs.Prelude.{ℕ, ◌-◌, ◌==◌, Bool, if◌then◌else◌, List, [], ◌∷◌, length, drop, Option}
use Rattle.std.specs.Option.{option_or}
use Rattle.vhdl_slips.specs.Instances.{open_instance}
use Rattle.vhdl_slips.specs.Parts.{begins, first_of}
use Rattle.vhdl_slips.specs.Words.{Read}
use Rattle.vhdl_lexer.specs.declared.token.Token.{Token}
use Rattle.vhdl_lexer.specs.declared.token.TokenKind.TheVariants as k
use Rattle.vhdl_places.specs.Regions.{entity_part, inner_region, last_unit, own_part}
use Rattle.vhdl_places.specs.Uses.{first_use, from_use}
use Rattle.vhdl_places.specs.declared.uses.Use.TheVariants.{Declared, Entity, Formal}

-- a declaration stands before what uses it: so the first place at which the name stands, in no component, process
-- or generate
abbrev pub first_in : (text name : List ℕ) → List Token → Option Token
first_in text name tokens = first_use Declared text (name ∷ []) tokens

-- the name of the first entity that is called so
abbrev pub first_entity : (text name : List ℕ) → List Token → Option Token
first_entity text name tokens = first_of (drop 1 (from_use Entity text (name ∷ []) tokens))

-- ---- by what stands before the second

abbrev pub names_entity : (before : List Token) → Bool
names_entity before = begins k.Entity (drop (length before - 1) before)

abbrev pub in_unit : (source : Read) → (name : List ℕ) → (unit : List Token) → Option Token
in_unit source name unit =
    option_or (first_in source.text name (entity_part source unit)) (first_in source.text name (own_part unit))

abbrev pub in_region : (source : Read) → (name : List ℕ) → (region before : List Token) → Option Token
in_region source name region before =
    if length region == 0 then in_unit source name (last_unit before) else first_in source.text name region

abbrev pub in_map : (source : Read) → (name : List ℕ) → (map before : List Token) → Option Token
in_map source name map before =
    if length map == 0 then in_region source name (inner_region before) before
    else first_use Formal source.text (name ∷ []) map

-- in the map that is open, among the entities, or in the region
abbrev pub first_declared : (source : Read) → (name : List ℕ) → (before : List Token) → Option Token
first_declared source name before =
    if names_entity before then first_entity source.text name before
    else in_map source name (open_instance before) before
