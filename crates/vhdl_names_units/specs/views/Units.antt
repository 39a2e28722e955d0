-- Units of the code.
use Rattle.std.specs.Prelude.{map, option_map}
use Rattle.vhdl_names_rules.specs.units.Units as u
use Rattle.vhdl_names_units.specs.views.Declarations.{all_generics_view, all_ports_view, declarations_view}
use Rattle.vhdl_names_units.specs.views.Concurrent.{concurrents_of, concurrents_view}
use Rattle.vhdl_names_units.specs.declared.unit.Architecture.{Architecture}
use Rattle.vhdl_names_units.specs.declared.unit.Entity.{Entity}
use Rattle.vhdl_names_units.specs.declared.unit.Units.{Units}

abbrev pub architecture_view : Architecture → u.Architecture
architecture_view a = record {
  declarations = declarations_view a.declarations;
  statements = concurrents_of (concurrents_view a.statements);
}

abbrev pub entity_view : Entity → u.Entity
entity_view e = record {
  at = e.name.at;
  name = e.name.text.items;
  generics = all_generics_view e.generics;
  ports = all_ports_view e.ports;
  architecture = option_map architecture_view e.architecture;
}

abbrev pub units_view : Units → u.Units
units_view u = map entity_view u.entities.items
