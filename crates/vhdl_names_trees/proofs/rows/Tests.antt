-- The links of a truth in a `Vec`, as contracts see them.
use Rattle.std.proofs.Common.{◌≡◌, false, true≢false, List, [], ◌∷◌, ◌++◌, Vec, Box, Global, refl, ap, ◌∙◌}
use mathlib.Core.Former.{Count}
use Rattle.vhdl_names_trees.specs.declared.test.StaticTest.{StaticTest}
use Rattle.vhdl_names_trees.specs.declared.test.StaticTest.TheVariants as s
use Rattle.vhdl_names_trees.specs.declared.test.StaticTest.TheBlock.{Row_of-StaticTestLink, end_of-StaticTestLink, more_of-StaticTestLink, items-the_row-StaticTestLink, hidden-the_row-StaticTestLink-0, items_hidden-the_row-StaticTestLink-0}
use Rattle.vhdl_names_trees.specs.declared.test.StaticTestLink.{StaticTestLink}
use Rattle.vhdl_names_trees.specs.declared.test.Test.{Test}
use Rattle.vhdl_names_trees.specs.declared.test.Test.TheVariants as t
use Rattle.vhdl_names_trees.specs.declared.test.Test.TheBlock.{Row_of-TestLink, end_of-TestLink, more_of-TestLink, items-the_row-TestLink, hidden-the_row-TestLink-0, items_hidden-the_row-TestLink-0}
use Rattle.vhdl_names_trees.specs.declared.test.TestLink.{TestLink}
use Rattle.vhdl_names_trees.specs.declared.test.StaticTestStart.{StaticTestStart}
use Rattle.vhdl_names_trees.specs.declared.test.TestStart.{TestStart}
use Rattle.vhdl_values.specs.declared.kinds.Logic.{Logic}
use Rattle.vhdl_names_rules.specs.Operators as table
use Rattle.vhdl_names_rules.specs.units.Expressions as u
use Rattle.vhdl_names_trees.specs.views.Tests.{static_test_view, static_start_view, static_links_view, static_test_chained, test_view, start_view, links_view, test_chained, is_fixed}

-- ---- over static integers

static_row : (left : u.StaticTest) (n : Count) (row : Row_of-StaticTestLink n) → static_links_view left row ≡ static_test_chained left (items-the_row-StaticTestLink n row)
static_row left n end_of-StaticTestLink = refl
static_row left n (more_of-StaticTestLink operator operand rest) = static_row (u.StaticTest.both operator left (static_test_view operand)) _ rest

pub view_static_chain : (start : Box StaticTestStart Global) (rest : Vec StaticTestLink Global) →
    static_test_view (s.Chain start rest) ≡ static_test_chained (static_start_view start.value) rest.items
view_static_chain start rest =
    static_row (static_start_view start.value) _ (hidden-the_row-StaticTestLink-0 rest)
    ∙ ap (static_test_chained (static_start_view start.value)) (items_hidden-the_row-StaticTestLink-0 rest)

static_chained-push : (left : u.StaticTest) (ls : List StaticTestLink) (l : StaticTestLink) →
    static_test_chained left (ls ++ l ∷ []) ≡ u.StaticTest.both l.operator (static_test_chained left ls) (static_test_view l.operand)
static_chained-push left [] l = refl
static_chained-push left (k ∷ ls) l = static_chained-push (u.StaticTest.both k.operator left (static_test_view k.operand)) ls l

-- one more link
pub static_after : (left : u.StaticTest) (ls ls' : List StaticTestLink) (l : StaticTestLink) → ls' ≡ ls ++ l ∷ [] →
    static_test_chained left ls' ≡ u.StaticTest.both l.operator (static_test_chained left ls) (static_test_view l.operand)
static_after left ls ls' l h = ap (static_test_chained left) h ∙ static_chained-push left ls l

-- ---- any truth

links_row : (left : u.Test) (n : Count) (row : Row_of-TestLink n) → links_view left row ≡ test_chained left (items-the_row-TestLink n row)
links_row left n end_of-TestLink = refl
links_row left n (more_of-TestLink operator operand rest) = links_row (u.Test.both operator left (test_view operand)) _ rest

pub view_chain : (start : Box TestStart Global) (rest : Vec TestLink Global) → test_view (t.Chain start rest) ≡ test_chained (start_view start.value) rest.items
view_chain start rest = links_row (start_view start.value) _ (hidden-the_row-TestLink-0 rest) ∙ ap (test_chained (start_view start.value)) (items_hidden-the_row-TestLink-0 rest)

test_chained-push : (left : u.Test) (ls : List TestLink) (l : TestLink) →
    test_chained left (ls ++ l ∷ []) ≡ u.Test.both l.operator (test_chained left ls) (test_view l.operand)
test_chained-push left [] l = refl
test_chained-push left (k ∷ ls) l = test_chained-push (u.Test.both k.operator left (test_view k.operand)) ls l

-- one more link
pub chained-after : (left : u.Test) (ls ls' : List TestLink) (l : TestLink) → ls' ≡ ls ++ l ∷ [] →
    test_chained left ls' ≡ u.Test.both l.operator (test_chained left ls) (test_view l.operand)
chained-after left ls ls' l h = ap (test_chained left) h ∙ test_chained-push left ls l

-- ---- truths over more than static integers

chain_other : (op : Logic) (x y : u.Test) (n : Count) (row : Row_of-TestLink n) → is_fixed (links_view (u.Test.both op x y) row) ≡ false
chain_other op x y n end_of-TestLink = refl
chain_other op x y n (more_of-TestLink operator operand rest) = chain_other operator (u.Test.both op x y) (test_view operand) _ rest

pub not_fixed : (test : Test) → ((x : StaticTest) → test ≡ t.Fixed x → ⊥) → is_fixed (test_view test) ≡ false
not_fixed (t.Fixed x) other = absurd (other x refl)
not_fixed (t.Chain' b first operator operand shape rest) other = chain_other operator (test_view first) (test_view operand) _ rest
not_fixed _ other = refl

pub negated_other : (x : u.Test) → is_fixed x ≡ false → table.negated x ≡ u.Test.negated x
negated_other (u.Test.fixed x) h = absurd (true≢false h)
negated_other _ h = refl

pub both_left : (op : Logic) (x y : u.Test) → is_fixed x ≡ false → table.both op x y ≡ u.Test.both op x y
both_left op (u.Test.fixed a) y h = absurd (true≢false h)
both_left op _ y h = refl

pub both_right : (op : Logic) (x : u.StaticTest) (y : u.Test) → is_fixed y ≡ false → table.both op (u.Test.fixed x) y ≡ u.Test.both op (u.Test.fixed x) y
both_right op x (u.Test.fixed a) h = absurd (true≢false h)
both_right op x _ h = refl
