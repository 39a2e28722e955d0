-- What single steps of attributes of ranges answer.
use Rattle.std.specs.Prelude.{ℕ, Bool, if◌then◌else◌, List, Option, Some, None, option_map, bytes_eq, codes}
use Rattle.vhdl_tree.specs.Tree as t
use Rattle.vhdl_tree.specs.Tree.{Attribute}
use Rattle.vhdl_names_rules.specs.Rules.{◌>>=◌}
use Rattle.vhdl_names_rules.specs.Types.{Typed, integer, interval}
use Rattle.vhdl_names_rules.specs.Visibility as visibility
use Rattle.vhdl_names_rules.specs.Visibility.{Meaning, Declared, DeclaredRange}
use Rattle.vhdl_names_rules.specs.Names.{Suffix}
use Rattle.vhdl_names_rules.specs.Ranges as rules
use Rattle.vhdl_names_rules.specs.Ranges.{of_type, of_integers, of_vector, of_slice, range_of, reversed, bound_of, bound}
use Rattle.vhdl_names_trees.specs.views.Integers.{range_view}
use Rattle.vhdl_names_rules.specs.views.Ranges.{declared_range_view}
use Rattle.vhdl_names_parts.specs.declared.ranges.Ranged.{Ranged}
use Rattle.vhdl_names_parts.specs.declared.ranges.Ranged.TheVariants as r

abbrev pub ranged_view : Ranged → rules.Ranged
ranged_view (r.Type w) = of_type w
ranged_view (r.Integers x) = of_integers (declared_range_view x)
ranged_view (r.Vector x) = of_vector (declared_range_view x)
ranged_view (r.Slice x s) = of_slice (declared_range_view x) (range_view s.value)

abbrev pub is_reverse_range : List ℕ → Bool
is_reverse_range a = bytes_eq a (codes "reverse_range")

-- the range or the bound that an attribute is
abbrev pub attribute_of : (at : ℕ) → Attribute → rules.Ranged → Option Typed
attribute_of at (t.of_range p) r = option_map interval (range_of r)
attribute_of at (t.called a) r =
    if is_reverse_range a.text then option_map (λ x. interval (reversed x)) (range_of r)
    else bound_of a.text >>= λ b. option_map integer (bound at b r)

-- what has such ranges, and its range or bound
abbrev pub range_attribute : (at : ℕ) → Attribute → Declared → Suffix → Option Typed
range_attribute at a d s = rules.range_attribute at (Some a) d s

-- the range of a type of vectors
abbrev pub sized_range : Meaning → Option DeclaredRange → Option DeclaredRange
sized_range (visibility.vector_type k is_resolved) r = r
sized_range m r = None
