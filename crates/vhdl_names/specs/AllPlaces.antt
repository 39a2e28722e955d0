-- What contracts see of several things.
use Rattle.std.specs.Prelude.{List, map, Vec}
use Rattle.std.specs.Global.{Global}
use Rattle.vhdl_names_trees.specs.declared.vector.SignalPart.{SignalPart}
use Rattle.vhdl_names_rules.specs.units.Expressions as u
use Rattle.vhdl_names_trees.specs.views.Vectors.{place_view}

abbrev pub all_places_view : Vec SignalPart Global → List u.SignalPart
all_places_view v = map place_view v.items
