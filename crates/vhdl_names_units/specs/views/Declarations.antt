-- Declarations of the code, one for each name, at the byte of which it stands.
use Rattle.std.specs.Prelude.{List, [], ◌∷◌, map, flat_map, option_map, unwrap_or, Vec}
use Rattle.std.specs.Global.{Global}
use Rattle.vhdl_tree.specs.View.{idents_view}
use Rattle.vhdl_names_rules.specs.units.Units as u
use Rattle.vhdl_names_rules.specs.Declarations.{for_each}
use Rattle.vhdl_names_trees.specs.views.Integers.{static_view, range_view, subtype_view}
use Rattle.vhdl_names_trees.specs.views.Tests.{static_test_view}
use Rattle.vhdl_names_units.specs.views.Answers.{form_view, fixed_view}
use Rattle.vhdl_names_units.specs.declared.declaration.GenericType.{GenericType}
use Rattle.vhdl_names_units.specs.declared.declaration.GenericType.TheVariants as gt
use Rattle.vhdl_names_units.specs.declared.declaration.Generics.{Generics}
use Rattle.vhdl_names_units.specs.declared.declaration.Objects.{Objects}
use Rattle.vhdl_names_units.specs.declared.declaration.Ports.{Ports}
use Rattle.vhdl_names_units.specs.declared.declaration.Declaration.{Declaration}
use Rattle.vhdl_names_units.specs.declared.declaration.Declaration.TheVariants as d

abbrev pub generic_type_view : GenericType → u.GenericType
generic_type_view (gt.Integers s) = u.integers (subtype_view s)
generic_type_view gt.Truths = u.truths
generic_type_view (gt.Values f) = u.values (form_view f)

abbrev pub generics_view : Generics → List u.Generic
generics_view g =
    for_each (λ n. record {
      at = n.at;
      name = n.text;
      type = generic_type_view g.generic_type;
      default = option_map fixed_view g.default;
    }) (idents_view g.names)

abbrev pub object_view : Objects → List u.Object
object_view o =
    for_each (λ n. record {
      at = n.at;
      name = n.text;
      form = form_view o.form;
      is_resolved = o.is_resolved;
      default = option_map fixed_view o.default;
    }) (idents_view o.names)

abbrev pub ports_view : Ports → List u.Port
ports_view p = map (λ o. record { mode = p.mode; object = o }) (object_view p.objects)

abbrev pub declaration_view : Declaration → List u.Declaration
declaration_view (d.Integers names told_at type value) =
    for_each (λ n. u.Declaration.integer (unwrap_or told_at n.at) (subtype_view type) (static_view value))
    (idents_view names)
declaration_view (d.Truths names value) =
    for_each (λ n. u.Declaration.truth n.at (static_test_view value)) (idents_view names)
declaration_view (d.Constants names form value) =
    for_each (λ n. u.Declaration.constant n.at (form_view form) (fixed_view value)) (idents_view names)
declaration_view (d.Signals o) = map u.Declaration.signal (object_view o)
declaration_view (d.Variables o) = map u.Declaration.variable (object_view o)
declaration_view (d.VectorSubtype at r) = u.vector_subtype at (range_view r) ∷ []
declaration_view (d.IntegerSubtype at s) = u.integer_subtype at (subtype_view s) ∷ []

-- ---- of a list of declarations

abbrev pub all_generics_view : Vec Generics Global → List u.Generic
all_generics_view v = flat_map generics_view v.items

abbrev pub all_ports_view : Vec Ports Global → List u.Port
all_ports_view v = flat_map ports_view v.items

abbrev pub declarations_view : Vec Declaration Global → List u.Declaration
declarations_view v = flat_map declaration_view v.items
