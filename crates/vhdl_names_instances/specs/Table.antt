-- What instances see of the entities of a file.
use Rattle.std.specs.Prelude.{◌≡◌, ℕ, List, map, filter_map, Option, option_map, Vec}
use Rattle.std.specs.Global.{Global}
use Rattle.vhdl_names_rules.specs.Visibility.{Name}
use Rattle.vhdl_names_rules.specs.Instances as rules
use Rattle.vhdl_names_rules.specs.Instances.{Formal, GenericFormal, generic_formal, port_formal}
use Rattle.vhdl_names_rules.specs.Interfaces.{EntityView}
use Rattle.vhdl_names_units.specs.Once.{names_view}
use Rattle.vhdl_names_instances.specs.declared.actuals.PortType.{PortType}
use Rattle.vhdl_names_instances.specs.declared.generics.GenericKind.{GenericKind}
use Rattle.vhdl_names_instances.specs.declared.generics.GenericKind.TheVariants as k
use Rattle.vhdl_names_instances.specs.declared.instances.Formals.{Formals}
use Rattle.vhdl_names_instances.specs.declared.instances.InstanceEntities.{InstanceEntities}

pub record Seen : Type 0 where
  pub architecture : Option Name
  pub generics : List Name
  pub generic_kinds : List GenericKind
  pub ports : List Name
  pub port_types : List PortType

abbrev pub items : Vec ℕ Global → Name
items v = v.items

abbrev pub seen_view : Formals → Seen
seen_view f = record {
  architecture = option_map items f.architecture;
  generics = names_view f.generics;
  generic_kinds = f.generic_kinds.items;
  ports = names_view f.ports;
  port_types = f.port_types.items;
}

abbrev pub seens_view : Vec Formals Global → List Seen
seens_view v = map seen_view v.items

abbrev pub type_of : Formal → PortType
type_of f = record { mode = f.mode; object_type = f.type }

abbrev pub kind_of : GenericFormal → GenericKind
kind_of f = by f.kind
  where
    by : rules.GenericKind → GenericKind
    by rules.integer = k.Integer
    by rules.boolean = k.Boolean
    by (rules.GenericKind.elements kind) = k.Elements kind

-- what is seen of an entity
abbrev pub seen : EntityView → Seen
seen e = record {
  architecture = e.architecture;
  generics = map (λ (f : GenericFormal). f.name) (filter_map generic_formal e.interface.declared);
  generic_kinds = map kind_of (filter_map generic_formal e.interface.declared);
  ports = map (λ (f : Formal). f.name) (filter_map port_formal e.interface.declared);
  port_types = map type_of (filter_map port_formal e.interface.declared);
}

-- the table of these entities
pub record AreEntities (table : InstanceEntities) (entities : List EntityView) : Type 0 where
  pub names : names_view table.names ≡ map (λ (e : EntityView). e.name) entities
  pub formals : seens_view table.formals ≡ map seen entities
