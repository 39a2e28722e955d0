-- Truths of the code, with a chain of operators grouped from the left.
use Rattle.std.specs.Prelude.{Bool, true, false, List, [], ◌∷◌, Result, Ok, Err}
use Rattle.vhdl_names_trees.specs.declared.test.Test.{Test}
use Rattle.vhdl_names_trees.specs.declared.test.Test.TheVariants as t
use Rattle.vhdl_names_trees.specs.declared.test.Test.TheBlock.{Row_of-TestLink, end_of-TestLink, more_of-TestLink}
use Rattle.vhdl_names_trees.specs.declared.test.TestLink.{TestLink}
use Rattle.vhdl_names_trees.specs.declared.test.TestStart.{TestStart}
use Rattle.vhdl_names_rules.specs.units.Expressions as u
use Rattle.vhdl_names_trees.specs.views.Integers.{static_view}
pub use Rattle.vhdl_names_trees.specs.views.StaticTests.{static_test_view, static_links_view, static_start_view, static_test_chained}
use Rattle.vhdl_names_trees.specs.views.Vectors.{place_view, computed_view, vector_view, value_view}

abbrev mutual
  pub test_view : Test → u.Test
  test_view (t.Holds x) = u.holds (vector_view x)
  test_view (t.Fixed x) = u.Test.fixed (static_test_view x)
  test_view (t.Alike at x y) = u.alike at (value_view x.value) (value_view y.value)
  test_view (t.Unlike at x y) = u.unlike at (value_view x.value) (value_view y.value)
  test_view (t.Compared op at x y) = u.Test.compared at op (vector_view x.value) (vector_view y.value)
  test_view (t.ComparedTo op at x s) = u.compared_to at op (vector_view x.value) (static_view s)
  test_view (t.ComparedWith op at s x) = u.compared_with at op (static_view s) (vector_view x.value)
  test_view (t.ComparedToComputed op at x y) =
      u.compared_to_computed at op (vector_view x.value) (computed_view y.value)
  test_view (t.ComparedWithComputed op at x y) =
      u.compared_with_computed at op (computed_view x.value) (vector_view y.value)
  test_view (t.ComputedCompared op at x y) =
      u.computed_compared at op (computed_view x.value) (computed_view y.value)
  test_view (t.Edge e p) = u.edge e (place_view p)
  test_view (t.Event p) = u.event (place_view p)
  test_view (t.Not' b x) = u.Test.negated (test_view x)
  test_view (t.Chain' b first operator operand shape rest) =
      links_view (u.Test.both operator (test_view first) (test_view operand)) rest

  pub links_view : {m : _} → u.Test → Row_of-TestLink m → u.Test
  links_view left end_of-TestLink = left
  links_view left (more_of-TestLink operator operand rest) =
      links_view (u.Test.both operator left (test_view operand)) rest

abbrev pub start_view : TestStart → u.Test
start_view s = u.Test.both s.link.operator (test_view s.first) (test_view s.link.operand)

abbrev pub test_chained : u.Test → List TestLink → u.Test
test_chained left [] = left
test_chained left (l ∷ ls) = test_chained (u.Test.both l.operator left (test_view l.operand)) ls

-- two tests, or one
abbrev pub parts_view : Result (Test × Test) Test → Result (u.Test × u.Test) u.Test
parts_view (Ok p) = Ok (test_view p.0, test_view p.1)
parts_view (Err t) = Err (test_view t)

abbrev pub is_fixed : u.Test → Bool
is_fixed (u.Test.fixed x) = true
is_fixed _ = false
