-- Elements and vectors of the code, with a chain of operators grouped from the left, and without where a character
-- literal or `not` stands.
use Rattle.std.specs.Prelude.{List, [], ◌∷◌, map}
use Rattle.vhdl_names_trees.specs.declared.vector.Signal.{Signal}
use Rattle.vhdl_names_trees.specs.declared.vector.Signal.TheVariants as g
use Rattle.vhdl_names_trees.specs.declared.vector.Part.{Part}
use Rattle.vhdl_names_trees.specs.declared.vector.Part.TheVariants as p
use Rattle.vhdl_names_trees.specs.declared.vector.SignalPart.{SignalPart}
use Rattle.vhdl_names_trees.specs.declared.vector.Computed.{Computed}
use Rattle.vhdl_names_trees.specs.declared.vector.Computed.TheVariants as m
use Rattle.vhdl_names_trees.specs.declared.vector.ComputedLink.{ComputedLink}
use Rattle.vhdl_names_trees.specs.declared.vector.ComputedStart.{ComputedStart}
use Rattle.vhdl_names_trees.specs.declared.vector.Chosen.{Chosen}
use Rattle.vhdl_names_trees.specs.declared.vector.Chosen.TheVariants as h
use Rattle.vhdl_names_trees.specs.declared.vector.Vector.{Vector}
use Rattle.vhdl_names_trees.specs.declared.vector.Vector.TheVariants as v
use Rattle.vhdl_names_trees.specs.declared.vector.Chosen.TheBlock.{Row_of-ComputedLink, end_of-ComputedLink, more_of-ComputedLink, Row_of-VectorLink, end_of-VectorLink, more_of-VectorLink, Row_of-VectorElement, end_of-VectorElement, more_of-VectorElement}
use Rattle.vhdl_names_trees.specs.declared.vector.VectorElement.{VectorElement}
use Rattle.vhdl_names_trees.specs.declared.vector.VectorElement.TheVariants as el
use Rattle.vhdl_names_trees.specs.declared.vector.VectorLink.{VectorLink}
use Rattle.vhdl_names_trees.specs.declared.vector.VectorLink.TheVariants as l
use Rattle.vhdl_names_trees.specs.declared.vector.VectorStart.{VectorStart}
use Rattle.vhdl_names_trees.specs.declared.vector.Value.{Value}
use Rattle.vhdl_names_trees.specs.declared.vector.Value.TheVariants as e
use Rattle.vhdl_names_rules.specs.units.Expressions as u
use Rattle.vhdl_names_trees.specs.views.Integers.{static_view, range_view, option_range_view, index_view}
use Rattle.vhdl_names_trees.specs.views.StaticTests.{static_test_view}

abbrev pub signal_view : Signal → u.Signal
signal_view (g.Port k) = u.port k
signal_view (g.Signal k) = u.Signal.signal k

abbrev pub part_view : Part → u.Part
part_view p.Whole = u.whole
part_view (p.Element s) = u.Part.element (static_view s)
part_view (p.Slice r) = u.slice (range_view r.value)

abbrev pub place_view : SignalPart → u.SignalPart
place_view x = record { at = x.at; signal = signal_view x.signal; part = part_view x.part }

abbrev mutual
  pub computed_view : Computed → u.Computed
  computed_view (m.Static s) = u.static (static_view s)
  computed_view (m.Number' at b x) = u.number_of at (vector_view x)
  computed_view (m.SignalNumber x) = u.signal_number (signal_view x)
  computed_view (m.VariableNumber k) = u.variable_number k
  computed_view (m.Negated' at b x) = u.Computed.negated at (computed_view x)
  computed_view (m.Magnitude' at b x) = u.magnitude at (computed_view x)
  computed_view (m.Chain' b first operator at operand shape rest) =
      computed_links_view (u.calculated at operator (computed_view first) (computed_view operand)) rest

  pub computed_links_view : {m : _} → u.Computed → Row_of-ComputedLink m → u.Computed
  computed_links_view left end_of-ComputedLink = left
  computed_links_view left (more_of-ComputedLink operator at operand rest) =
      computed_links_view (u.calculated at operator left (computed_view operand)) rest

  pub chosen_view : Chosen → u.Chosen
  chosen_view (h.Element x) = u.element_at (computed_view x)
  chosen_view (h.Slice l direction r) = u.slice_at (computed_view l) direction (computed_view r)

  pub vector_view : Vector → u.Vector
  vector_view (v.Signal x) = u.of_signal (place_view x)
  vector_view (v.Variable at k x) = u.of_variable at k (part_view x)
  vector_view (v.Constant at k x) = u.of_constant at k (part_view x)
  vector_view (v.InSignal' at x b c) = u.in_signal at (signal_view x) (chosen_view c)
  vector_view (v.InVariable' at k b c) = u.in_variable at k (chosen_view c)
  vector_view (v.InConstant' at k b c) = u.in_constant at k (chosen_view c)
  vector_view (v.Character at x) = u.Vector.character x
  vector_view (v.EnclosedCharacter at x) = u.Vector.enclosed_character x
  vector_view (v.Literal at xs) = u.Vector.literal at xs.items
  vector_view (v.Not' at b x) = u.Vector.inverse (vector_view x)
  vector_view (v.Chain' b first x shape rest) = links_view (linked (vector_view first) x) rest
  vector_view (v.IntegerWith' op at s b x) = u.integer_with at op (static_view s) (vector_view x)
  vector_view (v.ComputedWith' op at b x c y) = u.computed_with at op (computed_view x) (vector_view y)
  vector_view (v.ComputedEncoded' at b x s) = u.computed_encoded at (computed_view x) (static_view s)
  vector_view (v.Shifted' at by b x c y) = u.shifted at by (vector_view x) (computed_view y)
  vector_view (v.Encoded at s t) = u.Vector.encoded at (static_view s) (static_view t)
  vector_view (v.Counted' at op b x s) = u.counted at op (vector_view x) (static_view s)
  vector_view (v.Aggregate' at r shape es) = u.aggregate at (option_range_view r) (elements_row es)
  vector_view (v.Sized' at r b x) = u.sized at (range_view r.value) (vector_view x)

  pub elements_row : {m : _} → Row_of-VectorElement m → u.Elements
  elements_row end_of-VectorElement = u.no_elements
  elements_row (more_of-VectorElement x rest) = with_element x (elements_row rest)

  -- an element, with those behind it; behind that for all others none is seen
  pub with_element : VectorElement → u.Elements → u.Elements
  with_element (el.Next x) rest = u.next (vector_view x) rest
  with_element (el.Chosen is x) rest = u.chosen (map index_view is.items) (vector_view x) rest
  with_element (el.Others x) rest = u.Elements.others (vector_view x)

  pub links_view : {m : _} → u.Vector → Row_of-VectorLink m → u.Vector
  links_view left end_of-VectorLink = left
  links_view left (more_of-VectorLink x rest) = links_view (linked left x) rest

  -- an operator with its right operand, after what stands before it
  pub linked : u.Vector → VectorLink → u.Vector
  linked left (l.Vector op at x) = u.Vector.binary at op left (vector_view x)
  linked left (l.Integer op at s) = u.with_integer at op left (static_view s)
  linked left (l.Computed op at x) = u.with_computed at op left (computed_view x)

abbrev pub computed_start_view : ComputedStart → u.Computed
computed_start_view s =
    u.calculated s.link.at s.link.operator (computed_view s.first) (computed_view s.link.operand)

abbrev pub computed_chained : u.Computed → List ComputedLink → u.Computed
computed_chained left [] = left
computed_chained left (l ∷ ls) =
    computed_chained (u.calculated l.at l.operator left (computed_view l.operand)) ls

abbrev pub elements_view : List VectorElement → u.Elements
elements_view [] = u.no_elements
elements_view (x ∷ xs) = with_element x (elements_view xs)

abbrev pub start_view : VectorStart → u.Vector
start_view s = linked (vector_view s.first) s.link

abbrev pub vector_chained : u.Vector → List VectorLink → u.Vector
vector_chained left [] = left
vector_chained left (x ∷ xs) = vector_chained (linked left x) xs

abbrev pub value_view : Value → u.Value
value_view (e.Elements x) = u.Value.elements (vector_view x)
value_view (e.Position n) = u.Value.position n
value_view (e.StateOf x) = u.state_of (signal_view x)
value_view (e.StateOfVariable k) = u.state_of_variable k
value_view (e.Computed x) = u.Value.computed (computed_view x)
value_view (e.StaticTruth t) = u.static_truth (static_test_view t)
