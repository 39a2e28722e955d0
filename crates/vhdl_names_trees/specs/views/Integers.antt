-- Static integers of the code, with a chain of operators grouped from the left.
use Rattle.std.specs.Prelude.{ℕ, List, [], ◌∷◌, Box, Option, option_map}
use Rattle.std.specs.Global.{Global}
use Rattle.vhdl_names_trees.specs.declared.integer.Static.{Static}
use Rattle.vhdl_names_trees.specs.declared.integer.Static.TheVariants as s
use Rattle.vhdl_names_trees.specs.declared.integer.Static.TheBlock.{Row_of-StaticLink, end_of-StaticLink, more_of-StaticLink}
use Rattle.vhdl_names_trees.specs.declared.integer.StaticLink.{StaticLink}
use Rattle.vhdl_names_trees.specs.declared.integer.StaticStart.{StaticStart}
use Rattle.vhdl_names_trees.specs.declared.integer.StaticRange.{StaticRange}
use Rattle.vhdl_names_trees.specs.declared.integer.TargetRange.{TargetRange}
use Rattle.vhdl_names_trees.specs.declared.integer.TargetRange.TheVariants as g
use Rattle.vhdl_names_trees.specs.declared.integer.Index.{Index}
use Rattle.vhdl_names_trees.specs.declared.integer.Index.TheVariants as i
use Rattle.vhdl_names_trees.specs.declared.integer.IntegerSubtype.{IntegerSubtype}
use Rattle.vhdl_names_rules.specs.units.Expressions as u
use Rattle.vhdl_names_rules.specs.units.Units as units
use Rattle.vhdl_names_rules.specs.Ranges.{declared_range}
use Rattle.vhdl_names_rules.specs.views.Ranges.{declared_range_view, base_view}

abbrev mutual
  pub static_view : Static → u.Static
  static_view (s.Number n) = u.number n
  static_view (s.Generic k) = u.generic k
  static_view (s.Constant k) = u.Static.constant k
  static_view (s.GenerateParameter k) = u.generate_parameter k
  static_view (s.LoopParameter k) = u.loop_parameter k
  static_view (s.Negated' at p x) = u.Static.negated at (static_view x)
  static_view (s.Absolute' at p x) = u.absolute at (static_view x)
  static_view (s.Bound b k) = u.bound b k
  static_view s.LeastInteger = u.least_integer
  static_view (s.SliceBound' at b k p left direction q right) =
      u.slice_bound at b k (static_view left) direction (static_view right)
  static_view (s.Chain' p first operator at operand shape rest) =
      links_view (u.Static.binary at operator (static_view first) (static_view operand)) rest

  pub links_view : {m : _} → u.Static → Row_of-StaticLink m → u.Static
  links_view left end_of-StaticLink = left
  links_view left (more_of-StaticLink operator at operand rest) =
      links_view (u.Static.binary at operator left (static_view operand)) rest

abbrev pub start_view : StaticStart → u.Static
start_view s = u.Static.binary s.link.at s.link.operator (static_view s.first) (static_view s.link.operand)

abbrev pub static_chained : u.Static → List StaticLink → u.Static
static_chained left [] = left
static_chained left (l ∷ ls) = static_chained (u.Static.binary l.at l.operator left (static_view l.operand)) ls

abbrev pub range_view : StaticRange → u.Range
range_view r = record { left = static_view r.left; direction = r.direction; right = static_view r.right }

abbrev pub option_range_view : Option (Box StaticRange Global) → Option u.Range
option_range_view = option_map (λ (r : Box StaticRange Global). range_view r.value)

abbrev pub target_range_view : TargetRange → u.Range
target_range_view (g.Declared r) = declared_range (declared_range_view r)
target_range_view (g.Written r) = range_view r.now

abbrev pub index_view : Index → u.Index
index_view (i.Single at s) = u.index at (static_view s)
index_view (i.Range at r) = u.indexes at (range_view r)

abbrev pub subtype_view : IntegerSubtype → units.IntegerSubtype
subtype_view s =
    record { base = base_view s.base; range = option_map (λ (r : ℕ × StaticRange). (r.0, range_view r.1)) s.range }
