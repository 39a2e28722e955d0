-- What contracts see of what is known of an instance.
use Rattle.std.specs.Prelude.{[], List, map, ℤ}
use Rattle.vhdl_expand_tree.specs.Views.{object_view}
use Rattle.vhdl_expand_rules.specs.Declarations as definition
use Rattle.vhdl_expand_rules.specs.Site.{Site}
use Rattle.vhdl_expand_rules.specs.views.Integers.{range_view}
use Rattle.vhdl_expand_bodies.specs.Sites.{constant_view, placed_kind}
use Rattle.vhdl_expand_declarations.specs.declared.declared.InstanceObjects.{InstanceObjects}

abbrev pub declared_view : InstanceObjects → definition.InstanceObjects
declared_view d = record {
  site = record {
    integers = record {
      generics = d.generics.items;
      constants = d.region.integers.items;
      generates = [];
      loops = [];
      ranges = map range_view d.region.ranges.items;
    };
    constants = map constant_view d.region.constants.items;
    ports = map placed_kind d.ports.things.items;
    signals = map placed_kind d.signals.things.items;
    variables = [];
  };
  objects = map object_view d.objects.items;
}

-- within turns of generates whose parameters have these values
abbrev pub within_generates : Site → List ℤ → Site
within_generates at values = record at { integers = record at.integers { generates = values } }
