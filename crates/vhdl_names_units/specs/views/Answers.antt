-- Names, values, choices and subtype indications of the code.
use Rattle.std.specs.Prelude.{List, map, option_map, Vec}
use Rattle.std.specs.Global.{Global}
use Rattle.vhdl_names_trees.specs.views.Integers as integers
use Rattle.vhdl_names_trees.specs.views.Integers.{static_view, range_view, index_view}
use Rattle.vhdl_names_rules.specs.views.Ranges.{declared_range_view}
use Rattle.vhdl_names_trees.specs.views.Vectors.{vector_view, value_view, place_view, part_view, elements_view}
use Rattle.vhdl_names_trees.specs.views.Tests.{static_test_view, test_view}
use Rattle.vhdl_names_rules.specs.declared.kind.ObjectType.{ObjectType}
use Rattle.vhdl_names_rules.specs.Expressions as r
use Rattle.vhdl_names_rules.specs.Choices as h
use Rattle.vhdl_names_rules.specs.units.Statements as st
use Rattle.vhdl_names_rules.specs.units.Units as u
use Rattle.vhdl_names_rules.specs.Statements as q
use Rattle.vhdl_names_rules.specs.Subtypes as p
use Rattle.vhdl_names_units.specs.declared.answers.Given.{Given}
use Rattle.vhdl_names_units.specs.declared.answers.Given.TheVariants as g
use Rattle.vhdl_names_units.specs.declared.answers.Assigned.{Assigned}
use Rattle.vhdl_names_units.specs.declared.answers.Assigned.TheVariants as a
use Rattle.vhdl_names_units.specs.declared.answers.Selector.{Selector}
use Rattle.vhdl_names_units.specs.declared.answers.Selector.TheVariants as l
use Rattle.vhdl_names_units.specs.declared.answers.Choice.{Choice}
use Rattle.vhdl_names_units.specs.declared.answers.Choice.TheVariants as c
use Rattle.vhdl_names_units.specs.declared.answers.SignalName.{SignalName}
use Rattle.vhdl_names_units.specs.declared.answers.Form.{Form}
use Rattle.vhdl_names_units.specs.declared.answers.Form.TheVariants as f
use Rattle.vhdl_names_units.specs.declared.answers.Fixed.{Fixed}
use Rattle.vhdl_names_units.specs.declared.answers.Fixed.TheVariants as x
use Rattle.vhdl_names_units.specs.declared.answers.Subtype.{Subtype}

abbrev pub given_view : Given → st.Given
given_view (g.Single x) = st.single (value_view x.value)
given_view (g.Filled x) = st.filled (vector_view x.value)

abbrev pub choice_view : Choice → st.Choice
choice_view (c.Values vs) = st.values vs.items
choice_view (c.Position p) = st.Choice.position p
choice_view (c.Numbers i) = st.numbers (index_view i)

abbrev pub choices_view : Vec Choice Global → List st.Choice
choices_view v = map choice_view v.items

abbrev pub signal_name_view : SignalName → q.SignalName
signal_name_view x = record {
  place = place_view x.place;
  mode = x.mode;
  type = x.object_type;
  range = q.part_range (option_map declared_range_view x.declared) (part_view x.place.part);
}

abbrev pub form_view : Form → u.Form
form_view f.Element = u.element
form_view (f.Vector r) = u.vector (range_view r)
form_view (f.Enumeration k) = u.enumeration k
form_view (f.Number s) = u.Form.number (integers.subtype_view s)
form_view f.Boolean = u.boolean

abbrev pub fixed_view : Fixed → u.Fixed
fixed_view (x.Literal vs) = u.Fixed.literal vs.items
fixed_view (x.Position p) = u.Fixed.position p
fixed_view (x.Constant k) = u.Fixed.constant k
fixed_view (x.Encoded n size) = u.Fixed.encoded (static_view n) (static_view size)
fixed_view (x.Filled y) = u.Fixed.filled y
fixed_view (x.Given y) = u.Fixed.given (given_view y)
fixed_view (x.Aggregate at es) = u.Fixed.aggregate at (elements_view es.items)
fixed_view (x.Integer n) = u.Fixed.integer (static_view n)
fixed_view (x.Truth t) = u.Fixed.truth (static_test_view t)

abbrev pub subtype_view : Subtype → p.Subtype
subtype_view x = record { type = x.object_type; form = form_view x.form; is_resolved = x.is_resolved }

abbrev pub assigned_view : Assigned → r.Assigned
assigned_view (a.Given g) = r.given (given_view g)
assigned_view (a.Truth t) = r.truth_of (test_view t)

abbrev pub selector_view : Selector → h.Selector
selector_view (l.Value v) = h.value (value_view v)
selector_view (l.Truth t) = h.truth (test_view t)

-- the type of what a case is on, and that
abbrev pub selected_view : ObjectType × Selector → ObjectType × h.Selector
selected_view x = (x.0, selector_view x.1)
