-- What contracts see of a context, and what one clause brings.
use Rattle.std.specs.Prelude.{◌||◌, List, Option, Some}
use Rattle.std.specs.List.{list_any, list_all}
use Rattle.vhdl_tree.specs.Tree.{Ident, Selected}
use Rattle.vhdl_names_rules.specs.declared.fault.NameProblem.TheVariants.{Undeclared, LeftOut}
use Rattle.vhdl_names_rules.specs.Rules.{◌>>◌, rule}
use Rattle.vhdl_names_rules.specs.Packages as p
use Rattle.vhdl_names_packages.specs.declared.context.Context.{Context}

abbrev pub context_view : Context → p.Context
context_view c = record {
  language = c.language;
  has_ieee = c.has_ieee;
  has_logic = c.has_logic;
  has_numbers = c.has_numbers;
}

-- a library clause
abbrev pub libraries_named : p.Context → List Ident → Option p.Context
libraries_named before ns = do
  rule LeftOut (list_all p.is_library ns)
  Some (record before { has_ieee = before.has_ieee || list_any p.is_ieee ns })

-- a use clause
abbrev pub packages_used : p.Context → List Selected → Option p.Context
packages_used before ss = do
  rule Undeclared before.has_ieee
  rule LeftOut (list_all (λ s. p.is_logic s || p.is_numbers s) ss)
  Some (record before {
    has_logic = before.has_logic || list_any p.is_logic ss;
    has_numbers = before.has_numbers || list_any p.is_numbers ss;
  })
