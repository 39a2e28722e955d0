-- The top of a design: the name of its entity, in letters of either case, and values for its generics. How the generics
-- of a top get values from outside is left to the implementation (IEEE 1076-2008, 14.2). Here a value is as an actual
-- of a generic map (6.5.6.2, 6.5.7.2, 14.3.3).
use Rattle.std.specs.Prelude.{ℕ, suc, Bool, true, false, ◌&&◌, List, [], ◌∷◌, map, find, Option, option_map, ℤ, pos, negsuc}
use Rattle.std.specs.Str.{str_eq_ignore_ascii_case}
use Rattle.std.specs.List.{list_any, list_all}
use Rattle.vhdl_names_rules.specs.units.Expressions as u
use Rattle.vhdl_names_rules.specs.units.Expressions.{Static}
use Rattle.vhdl_names_rules.specs.units.Units as units
use Rattle.vhdl_names_rules.specs.units.Units.{Fixed, GenericType, Generic, Entity}
use Rattle.vhdl_expand_rules.specs.declared.fault.ElabProblem.TheVariants.{NoGeneric}
use Rattle.vhdl_expand_rules.specs.Elab.{Elab, ◌>>◌, unless}
use Rattle.vhdl_expand_rules.specs.Site.{no_site}
use Rattle.vhdl_expand_rules.specs.Declarations.{InstanceObjects, interface}

-- a generic by its name, in letters of either case, and its value
pub record Setting : Type 0 where
  pub name : List ℕ
  pub value : ℤ

pub record Top : Type 0 where
  pub name : List ℕ
  pub generics : List Setting

-- with no generic set
abbrev pub plain : (name : List ℕ) → Top
plain name = record { name = name; generics = [] }

-- the setting is of the generic of this name
abbrev pub sets : (name : List ℕ) → Setting → Bool
sets name s = str_eq_ignore_ascii_case name s.name

-- an integer as an expression, of which what is wrong is told at this byte
abbrev pub static_of : (at : ℕ) → ℤ → Static
static_of at (pos n) = u.number n
static_of at (negsuc n) = u.Static.negated at (u.number (suc n))

-- the actual of the generic of this name, which starts at this byte, if its value is set
abbrev pub set_actual : List Setting → (name : List ℕ) → (at : ℕ) → Option Fixed
set_actual settings name at =
    option_map (λ (s : Setting). units.Fixed.integer (static_of at s.value)) (find (sets name) settings)

-- in order of the generics; of no setting there is no actual
abbrev pub actuals_of : List Setting → List Generic → List (Option Fixed)
actuals_of [] gs = []
actuals_of (s ∷ ss) gs = map (λ (g : Generic). set_actual (s ∷ ss) g.name g.at) gs

-- whether a setting is of one of these generics, which is an integer
abbrev pub is_integer : GenericType → Bool
is_integer (units.integers type) = true
is_integer _ = false

abbrev pub is_generic : List Generic → Setting → Bool
is_generic gs s = list_any (λ (g : Generic). sets g.name s && is_integer g.type) gs

-- what is known of the top where its architecture begins; a setting of no generic is told at the entity's name
unfoldable pub top_interface : Top → Entity → Elab InstanceObjects
top_interface top unit = do
  unless NoGeneric unit.at (list_all (is_generic unit.generics) top.generics)
  interface no_site (actuals_of top.generics unit.generics) unit
