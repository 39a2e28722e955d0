-- Where a part of a file starts, a piece of it stands.
use Rattle.std.proofs.Common.{ℕ, ◌++◌, Option, Some, None}
use Rattle.vhdl_tree.specs.Tree as t
use Rattle.vhdl_tree.specs.Tree.{Expr, Ident, Attribute}
use Rattle.vhdl_tree.specs.Pieces.{spell_option}
use Rattle.vhdl_tree.specs.grammar.Expressions.{spell, spell_attribute, spell_discrete_range, spell_choice, spell_actual, spell_formal, spell_association}
use Rattle.vhdl_names_rules.specs.problems.Places.{start, range_start, choice_place, actual_place, place_from, association_place}
use Rattle.vhdl_names_rules.specs.problems.Expressions.{attribute_start}
use Rattle.vhdl_names_laws.proofs.placed.Told.{Stand, first}

pub start_stands : (P : ℕ → Type 0) (e : Expr) → Stand P (spell e) → P (start e)
start_stands P (t.binary begins op at d e) h = start_stands P d (first P (spell d) _ h)
start_stands P (t.power d at e) h = start_stands P d (first P (spell d) _ h)
start_stands _ _ h = h.0

pub range_stands : (P : ℕ → Type 0) (r : t.DiscreteRange) → Stand P (spell_discrete_range r) → P (range_start r)
range_stands P (t.bounds r) h = start_stands P r.left (first P (spell r.left) _ h)
range_stands P (t.range_named n) h = h.0

pub choice_stands : (P : ℕ → Type 0) (c : t.Choice) → Stand P (spell_choice c) → P (choice_place c)
choice_stands P (t.chosen e) h = start_stands P e h
choice_stands P (t.chosen_range d direction e) h = start_stands P d (first P (spell d) _ h)
choice_stands P (t.otherwise at) h = h.0

actual_stands : (P : ℕ → Type 0) (a : t.Actual) → Stand P (spell_actual a) → P (actual_place a)
actual_stands P (t.actual e) h = start_stands P e h
actual_stands P (t.left_open at) h = h.0

pub association_stands : (P : ℕ → Type 0) (a : t.Association) → Stand P (spell_association a) → P (association_place a)
association_stands P a h = from a.formal h
  where
    from : (f : Option Ident) → Stand P (spell_option spell_formal f ++ spell_actual a.actual) → P (place_from f a.actual)
    from None h = actual_stands P a.actual h
    from (Some f) h = h.0

pub attribute_stands : (P : ℕ → Type 0) (a : Attribute) → Stand P (spell_attribute a) → P (attribute_start a)
attribute_stands P (t.called n) h = h.1.0
attribute_stands P (t.of_range at) h = h.1.0
