-- What contracts see of names in a text.
pub use Rattle.vhdl_expand_rules.specs.Prefixes.{whole_of}
use Rattle.std.specs.Prelude.{List, map, Vec}
use Rattle.std.specs.Global.{Global}
use Rattle.vhdl_names_rules.specs.units.Expressions as u
use Rattle.vhdl_names_trees.specs.views.Vectors.{place_view, signal_view}
use Rattle.vhdl_expand_processes.specs.declared.name.Name.{Name}
use Rattle.vhdl_expand_processes.specs.declared.name.Name.TheVariants as n

abbrev pub name_view : Name → u.SignalPart
name_view (n.Written p) = place_view p.now
name_view (n.Whole x) = whole_of (signal_view x)

abbrev pub named_by : Vec Name Global → List u.SignalPart
named_by v = map name_view v.items
