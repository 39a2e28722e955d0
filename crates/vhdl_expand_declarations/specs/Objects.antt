-- Ports and signals, of which those of one declaration are alike.
use Rattle.std.specs.Prelude.{ℕ, [], List, Option, None, option_map, Ok}
use Rattle.vhdl_tree.specs.Tree.{Ident}
use Rattle.vhdl_names_rules.specs.units.Units as u
use Rattle.vhdl_names_rules.specs.units.Units.{Fixed, Form}
use Rattle.vhdl_names_units.specs.declared.declaration.Objects.{Objects}
use Rattle.vhdl_names_units.specs.views.Answers.{fixed_view, form_view}
use Rattle.vhdl_expand_rules.specs.Declarations.{InstanceObjects, object, starts, with_port, with_signal}
use Rattle.vhdl_expand_rules.specs.Elab.{Elab, ◌>>=◌}
use Rattle.vhdl_expand_rules.specs.Kinds.{ObjectKind, kind_of}
use Rattle.vhdl_expand_rules.specs.Site.{Site, no_site}
use Rattle.vhdl_expand_rules.specs.Tree.{Role, input, output, internal, Object}

-- what objects of this form and with this default are and start with
abbrev pub shape_of : Site → (at : ℕ) → Form → Option Fixed → Elab (ObjectKind × List ℕ)
shape_of here at form default = do
  kind ← kind_of here.integers at form
  vs ← starts here at kind default
  Ok (kind, vs)

abbrev pub shaped : ObjectKind × List ℕ → Role → u.Object → Object
shaped shape role o = record {
  at = o.at;
  name = o.name;
  role = role;
  kind = shape.0;
  is_resolved = o.is_resolved;
  starts = shape.1;
  actual = None;
}

abbrev pub nothing_declared : InstanceObjects
nothing_declared = record { site = no_site; objects = [] }

abbrev pub with_object : InstanceObjects → Object → InstanceObjects
with_object d o = by o.role
  where
    by : Role → InstanceObjects
    by input = with_port d o
    by output = with_port d o
    by internal = with_signal d o

-- one more port or signal, of this role
abbrev pub next_object : Role → InstanceObjects → u.Object → Elab InstanceObjects
next_object role d o = do
  x ← object d.site role o
  Ok (with_object d x)

-- the object of this name among those of a declaration
abbrev pub named_object : Objects → Ident → u.Object
named_object objects name =
    record {
      at = name.at;
      name = name.text;
      form = form_view objects.form;
      is_resolved = objects.is_resolved;
      default = option_map fixed_view objects.default;
    }
