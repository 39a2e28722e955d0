-- The small trees of specs/rules/Declarations.antt compute.
use Rattle.std.proofs.Common.{refl}
use Rattle.vhdl_names_rules.specs.Expressions.{typed, static, static_range}
use Rattle.vhdl_names_rules.specs.Subtypes.{subtype, object_subtype, integer_subtype, fixed_value}
use Rattle.vhdl_names_rules.specs.Declarations.{generic, port, constants_in, signals}
use Rattle.vhdl_names_rules.specs.Interfaces.{interface}
use Rattle.vhdl_names_rules.specs.Local.{is_local}
use Rattle.rtl_definition_examples.specs.rules.Declarations.{DeclarationsDeclare, ValuesAreFixed, ChoicesCover}

pub declarations_declare : DeclarationsDeclare
unfolding typed static static_range is_local subtype object_subtype integer_subtype fixed_value generic port constants_in signals interface
declarations_declare = record { ports = refl; generics = refl; integers = refl; elements = refl; twice = refl; enumerated_port = refl; integer_port = refl; unconstrained = refl; not_visible = refl; self_hidden = refl; logic_generic = refl }

pub values_are_fixed : ValuesAreFixed
unfolding typed static subtype object_subtype fixed_value generic port signals interface
values_are_fixed = record { a_character = refl; a_string = refl; a_filling = refl; a_literal = refl; a_constant = refl; an_encoding = refl; a_signal = refl; enclosed_literal = refl; computed = refl }

pub choices_cover : ChoicesCover
unfolding typed static subtype object_subtype fixed_value generic port signals interface
choices_cover = record { with_others = refl; without_others = refl; all_literals = refl; one_literal = refl; twice = refl; others_first = refl; others_beside = refl; enclosed_choice = refl; signal = refl }
