-- What contracts see of the declarations in sight: what a place sees.
use Rattle.std.specs.Prelude.{map, reverse}
use Rattle.vhdl_names_rules.specs.Visibility as visibility
use Rattle.vhdl_names_sight.specs.Views.{declared_view, region_view}
use Rattle.vhdl_names_sight.specs.declared.sight.Sight.TheInside.{Inside}

abbrev pub sight_view : Inside → visibility.Sight
sight_view s = record {
  loops = reverse (map declared_view s.loops.items);
  variables = region_view s.variables;
  generates = reverse (map declared_view s.generates.items);
  region = region_view s.region;
  enclosing = region_view s.enclosing;
  packages = region_view s.packages;
  numbers = s.has_numbers;
  language = s.language;
}
