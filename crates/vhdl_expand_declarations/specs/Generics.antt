-- What contracts see of generics and their values, one after another.
use Rattle.std.specs.Prelude.{ℕ, suc, List, drop, map, Option, option_map, Ok}
use Rattle.std.specs.Borrow.{Bor}
use Rattle.vhdl_tree.specs.Tree.{Ident}
use Rattle.vhdl_names_rules.specs.units.Units as u
use Rattle.vhdl_names_rules.specs.units.Units.{Generic}
use Rattle.vhdl_names_units.specs.declared.answers.Fixed.{Fixed}
use Rattle.vhdl_names_units.specs.declared.declaration.Generics.{Generics}
use Rattle.vhdl_names_units.specs.views.Answers.{fixed_view}
use Rattle.vhdl_names_units.specs.views.Declarations.{generic_type_view}
use Rattle.vhdl_expand_rules.specs.Elab.{Elab, ◌>>=◌}
use Rattle.vhdl_expand_rules.specs.Declarations as definition
use Rattle.vhdl_expand_rules.specs.Declarations.{InstanceObjects, with_generic, with_constant, first_of}
use Rattle.vhdl_expand_rules.specs.Site.{Site}
use Rattle.vhdl_expand_bodies.specs.Sites.{constant_view}
use Rattle.vhdl_expand_declarations.specs.declared.declared.InstanceObjects as code
use Rattle.vhdl_expand_declarations.specs.declared.generics.GenericValue.{GenericValue}
use Rattle.vhdl_expand_declarations.specs.declared.generics.GenericValue.TheVariants as v
use Rattle.vhdl_expand_declarations.specs.Views.{declared_view}

-- actuals that are lent, where there are some
abbrev pub actuals_view : List (Option (Bor Fixed)) → List (Option u.Fixed)
actuals_view actuals = map (option_map (λ (value : Bor Fixed). fixed_view value.now)) actuals

-- the generic of a declaration with this name
abbrev pub generic_view : Ident → Generics → Generic
generic_view n g = record {
  at = n.at;
  name = n.text;
  type = generic_type_view g.generic_type;
  default = option_map fixed_view g.default;
}

-- what is known with a generic of this value
abbrev pub valued_at : Site → GenericValue → Site
valued_at own (v.Integer x) = with_generic own x
valued_at own (v.Constant c) = with_constant own (constant_view c)

-- how many generics are declared, and what is known with them
pub record Further : Type 0 where
  pub count : ℕ
  pub known : InstanceObjects

abbrev pub further_view : ℕ → code.InstanceObjects → Further
further_view count d = record { count = count; known = declared_view d }

-- one more, whose actual stands behind as many
abbrev pub next_generic : (above : Site) → List (Option u.Fixed) → Further → Generic → Elab Further
next_generic above actuals s g = do
  here ← definition.generic above s.known.site (first_of (drop s.count actuals)) g
  Ok (record { count = suc s.count; known = record s.known { site = here } })

-- all of them, of an instance of which nothing else is known
abbrev pub all_generics : (above : Site) → List (Option u.Fixed) → InstanceObjects → List Generic → Elab InstanceObjects
all_generics above actuals d gs = do
  here ← definition.generics above d.site actuals gs
  Ok (record d { site = here })
