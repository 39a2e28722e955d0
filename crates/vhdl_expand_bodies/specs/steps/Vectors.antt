-- Parts of expressions, as the code comes to them.
use Rattle.std.specs.Prelude.{ℕ, List, ◌++◌, length, map, Option, ℤ, Ok}
use Rattle.vhdl_values.specs.declared.scalar.Nine.{Nine}
use Rattle.vhdl_values.specs.declared.kinds.Counted.{Counted}
use Rattle.vhdl_values.specs.Numbers.{digits_of}
use Rattle.vhdl_names_rules.specs.declared.operator.Numeric.{Numeric}
use Rattle.vhdl_names_trees.specs.declared.vector.VectorElement.{VectorElement}
use Rattle.vhdl_names_trees.specs.declared.vector.VectorElement.TheVariants as v
use Rattle.vhdl_names_trees.specs.declared.vector.VectorLink.{VectorLink}
use Rattle.vhdl_names_trees.specs.declared.vector.VectorLink.TheVariants as l
use Rattle.vhdl_names_trees.specs.declared.vector.VectorStart.{VectorStart}
use Rattle.vhdl_names_trees.specs.views.Integers.{static_view, index_view}
use Rattle.vhdl_names_trees.specs.views.Vectors.{computed_view, vector_view}
use Rattle.vhdl_names_rules.specs.units.Expressions.{Static, Range, Signal, Part, Vector}
use Rattle.rtl_model.specs.bodies.Body as bodies
use Rattle.rtl_model.specs.bodies.Fits.{width}
use Rattle.vhdl_expand_rules.specs.Elab.{Elab, ◌>>=◌, ◌>>◌, same_length}
use Rattle.vhdl_expand_rules.specs.Integers.{natural}
use Rattle.vhdl_expand_rules.specs.Kinds.{as_size, size_of, count_of, declared_bounds, bounds_size}
use Rattle.vhdl_expand_rules.specs.Aggregates.{Placed, next, chosen, others, chosen_indexes}
use Rattle.vhdl_expand_rules.specs.Site.{Site, signal_elements, variable_elements}
use Rattle.vhdl_expand_rules.specs.Expressions.{operation_on, operator, numeric, computed, vector}
use Rattle.vhdl_expand_rules.specs.Computed.{Number, natural_digits}

abbrev pub literal : (at : ℕ) → List Nine → Elab bodies.Expr
literal at xs = do
  as_size at (length xs)
  Ok (bodies.constant xs)

module _ (here : Site) where
  abbrev pub signal : (at : ℕ) → Signal → Part → Elab bodies.Expr
  signal at x part = do
    es ← signal_elements here at x part
    Ok (bodies.signal es)

  abbrev pub variable : (at : ℕ) → ℕ → Part → Elab bodies.Expr
  variable at k part = do
    es ← variable_elements here at k part
    Ok (bodies.variable es)

  abbrev pub encoded : (at : ℕ) → Static → Static → Elab bodies.Expr
  encoded at s t = do
    n ← natural here.integers at s
    len ← size_of here.integers at t
    Ok (bodies.constant (digits_of len n))

  abbrev pub by_count : (at : ℕ) → Counted → Vector → Static → Elab bodies.Expr
  by_count at op x s = do
    e ← vector here x
    n ← count_of op here.integers at s
    Ok (bodies.counted op n e)

  abbrev pub integer_with : (at : ℕ) → Numeric → Static → Vector → Elab bodies.Expr
  integer_with at op s x = do
    n ← natural here.integers at s
    e ← vector here x
    operation_on at (numeric op) (bodies.constant (digits_of (width e) n)) e

  -- of a number that is computed already
  abbrev pub computed_with : (at : ℕ) → Numeric → Number → Vector → Elab bodies.Expr
  computed_with at op n x = do
    e ← vector here x
    operation_on at (numeric op) (natural_digits (width e) n) e

  -- one element, of an aggregate that starts here
  abbrev pub one_element : (at : ℕ) → Vector → Elab bodies.Expr
  one_element at x = do
    e ← vector here x
    same_length at (width e) 1
    Ok e

  -- an element of an aggregate that starts here, and which indexes are taken behind it
  abbrev pub placed : (at : ℕ) → Option (List ℤ) → (taken : List ℤ) → VectorElement → Elab (Placed × List ℤ)
  placed at all taken (v.Next x) = do
    e ← vector here (vector_view x)
    Ok (next e, taken)
  placed at all taken (v.Chosen cs x) = do
    is ← chosen_indexes here.integers all taken (map index_view cs.items)
    e ← one_element at (vector_view x)
    Ok (chosen is e, taken ++ is)
  placed at all taken (v.Others x) = do
    e ← one_element at (vector_view x)
    Ok (others e, taken)

  -- as long as a range
  abbrev pub sized : (at : ℕ) → Range → Vector → Elab bodies.Expr
  sized at r x = do
    e ← vector here x
    b ← declared_bounds here.integers at r
    same_length at (width e) (bounds_size b)
    Ok e

  -- an operator with its right operand, after an expression
  abbrev pub linked : bodies.Expr → VectorLink → Elab bodies.Expr
  linked d (l.Vector op at x) = do
    e ← vector here (vector_view x)
    operation_on at (operator op) d e
  linked d (l.Integer op at s) = do
    n ← natural here.integers at (static_view s)
    operation_on at (numeric op) d (bodies.constant (digits_of (width d) n))
  linked d (l.Computed op at x) = do
    n ← computed here at (computed_view x)
    operation_on at (numeric op) d (natural_digits (width d) n)

  abbrev pub started : VectorStart → Elab bodies.Expr
  started s = do
    d ← vector here (vector_view s.first)
    linked d s.link
