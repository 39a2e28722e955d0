-- Truths of the code over static integers, with a chain of operators grouped from the left.
use Rattle.std.specs.Prelude.{List, [], ◌∷◌}
use Rattle.vhdl_names_trees.specs.declared.test.StaticTest.{StaticTest}
use Rattle.vhdl_names_trees.specs.declared.test.StaticTest.TheVariants as s
use Rattle.vhdl_names_trees.specs.declared.test.StaticTest.TheBlock.{Row_of-StaticTestLink, end_of-StaticTestLink, more_of-StaticTestLink}
use Rattle.vhdl_names_trees.specs.declared.test.StaticTestLink.{StaticTestLink}
use Rattle.vhdl_names_trees.specs.declared.test.StaticTestStart.{StaticTestStart}
use Rattle.vhdl_names_rules.specs.units.Expressions as u
use Rattle.vhdl_names_trees.specs.views.Integers.{static_view}

abbrev mutual
  pub static_test_view : StaticTest → u.StaticTest
  static_test_view (s.Known at x) = u.known at (static_view x)
  static_test_view (s.Compared op at x y) = u.StaticTest.compared at op (static_view x) (static_view y)
  static_test_view (s.Not' b x) = u.StaticTest.negated (static_test_view x)
  static_test_view (s.Chain' b first operator operand shape rest) =
      static_links_view (u.StaticTest.both operator (static_test_view first) (static_test_view operand)) rest

  pub static_links_view : {m : _} → u.StaticTest → Row_of-StaticTestLink m → u.StaticTest
  static_links_view left end_of-StaticTestLink = left
  static_links_view left (more_of-StaticTestLink operator operand rest) =
      static_links_view (u.StaticTest.both operator left (static_test_view operand)) rest

abbrev pub static_start_view : StaticTestStart → u.StaticTest
static_start_view s = u.StaticTest.both s.link.operator (static_test_view s.first) (static_test_view s.link.operand)

abbrev pub static_test_chained : u.StaticTest → List StaticTestLink → u.StaticTest
static_test_chained left [] = left
static_test_chained left (l ∷ ls) =
    static_test_chained (u.StaticTest.both l.operator left (static_test_view l.operand)) ls
