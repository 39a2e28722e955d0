-- The small trees of specs/rules/Expressions.antt compute.
use Rattle.std.proofs.Common.{refl}
use Rattle.vhdl_names_rules.specs.Expressions.{typed, value_given, value_assigned}
use Rattle.rtl_definition_examples.specs.rules.Expressions.{OperatorsHaveTypes, NamesHaveMeanings, EdgesAskForSignals, LiteralsHaveValues}

pub operators_have_types : OperatorsHaveTypes
unfolding typed value_given value_assigned
operators_have_types = record { logical = refl; mixed = refl; concatenated = refl; number_first = refl; integer_first = refl; static = refl; negated = refl; compared = refl; no_number = refl; open_sum = refl; vector_sum = refl; unseen_sum = refl; unlike_kinds = refl; ordered_vectors = refl; unequal_numbers = refl; ordered_numbers = refl; enumerations = refl }

pub names_have_meanings : NamesHaveMeanings
unfolding typed value_given value_assigned
names_have_meanings = record { undeclared = refl; hidden = refl; turn = refl; no_elements = refl; converted = refl; not_visible = refl; of_constant = refl; no_resize = refl; counted = refl; encoded = refl }

pub edges_ask_for_signals : EdgesAskForSignals
unfolding typed value_given value_assigned
edges_ask_for_signals = record { call = refl; enclosed_name = refl; of_constant = refl; in_loop = refl; level = refl; enclosed_level = refl; enclosed_signal = refl; event_of_element = refl; event_of_vector = refl }

pub literals_have_values : LiteralsHaveValues
unfolding typed value_given value_assigned
literals_have_values = record { bits = refl; element = refl; small_letter = refl; empty = refl; integer = refl }
