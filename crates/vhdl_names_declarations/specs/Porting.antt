-- What is analysed of ports of one declaration, whose names mean nothing yet.
use Rattle.std.specs.Prelude.{ℕ, Bool, List, ◌++◌, Option, Some, option_map}
use Rattle.vhdl_tree.specs.declared.operator.Direction.{Direction}
use Rattle.vhdl_tree.specs.Tree as t
use Rattle.vhdl_names_rules.specs.units.Units as u
use Rattle.vhdl_names_rules.specs.units.Units.{Fixed}
use Rattle.vhdl_names_rules.specs.declared.fault.NameProblem.TheVariants.{Twice}
use Rattle.vhdl_names_rules.specs.Rules.{◌>>=◌, ◌>>◌, rule, if_any}
use Rattle.vhdl_names_rules.specs.Visibility as visibility
use Rattle.vhdl_names_rules.specs.Visibility.{Sight, Meaning, are_distinct}
use Rattle.vhdl_names_rules.specs.Interfaces.{declared_names}
use Rattle.vhdl_names_rules.specs.Declarations.{as_port_type, is_global, mode_of, unfinished, within, for_each}
use Rattle.vhdl_names_rules.specs.Subtypes.{Subtype, object_subtype, form_range, form_direction, fixed_value, object}
use Rattle.vhdl_names_rules.specs.problems.Broken.{Broken, ◌▸◌}
use Rattle.vhdl_names_rules.specs.problems.Declarations.{standing_twice, typed_port}
use Rattle.vhdl_names_units.specs.declared.declaration.Ports.{Ports}
use Rattle.vhdl_names_units.specs.views.Answers.{subtype_view, fixed_view}
use Rattle.vhdl_names_units.specs.views.Declarations.{ports_view}
use Rattle.vhdl_names_declarations.specs.declared.ports.TypedPort.{TypedPort}
use Rattle.vhdl_names_declarations.specs.declared.region.Settled.{Settled}
use Rattle.vhdl_names_declarations.specs.Settled.{class_view}

-- how names stand, once they mean something
pub record Standing : Type 0 where
  pub meaning : ℕ → Meaning
  pub direction : Option Direction
  pub is_global : Bool

abbrev pub settled_view : Settled → Standing
settled_view s = record { meaning = class_view s.class; direction = s.direction; is_global = s.is_global }

pub record Port : Type 0 where
  pub standing : Standing
  pub subtype : Subtype
  pub default : Option Fixed

abbrev pub port_view : TypedPort → Port
port_view p = record {
  standing = settled_view p.settled;
  subtype = subtype_view p.subtype;
  default = option_map fixed_view p.default;
}

abbrev pub port : Sight → t.Port → Option Port
port sight p = do
  x ← object_subtype sight p.subtype
  type ← as_port_type x.type
  default ← if_any (fixed_value sight x.type (form_range x.form)) p.default
  Some (record {
    standing = record {
      meaning = λ k. visibility.port k (mode_of p.mode) type;
      direction = form_direction x.form;
      is_global = is_global sight p.subtype;
    };
    subtype = x;
    default = default;
  })

-- the same with its names hidden
abbrev pub hidden_view : Settled × Ports → Standing × List u.Port
hidden_view x = (settled_view x.0, ports_view x.1)

abbrev pub hidden_port : Sight → t.Port → Option (Sight × (Standing × List u.Port))
hidden_port sight p = do
  x ← port sight p
  rule Twice (are_distinct (declared_names (sight.region ++ unfinished p.names)))
  Some (
    within sight p.names,
    (x.standing, for_each (λ n. record { mode = mode_of p.mode; object = object x.subtype x.default n }) p.names),
  )

abbrev pub hidden_breaks : Sight → t.Port → Broken
hidden_breaks sight p = standing_twice sight.region p.names ▸ typed_port sight p
