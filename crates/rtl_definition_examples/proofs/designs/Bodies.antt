-- The examples of specs/designs/Bodies.antt compute.
use Rattle.std.proofs.Common.{refl}
use Rattle.vhdl_values.specs.Numbers.{digits_of}
use Rattle.vhdl_expand_rules.specs.Integers.{integer, natural, numbers_of, integer_of, decision, turns}
use Rattle.vhdl_expand_rules.specs.Kinds.{declared_bounds, kind_of, size_of, count_of, places}
use Rattle.vhdl_expand_rules.specs.Site.{signal_elements, variable_elements, constant_values}
use Rattle.vhdl_expand_rules.specs.Expressions.{vector, elements, value, test}
use Rattle.vhdl_expand_rules.specs.Statements.{value_given, choice, statement, statements, statement_turns, statements_turns}
use Rattle.vhdl_expand_rules.specs.Prefixes.{names_elements, prefixes_elements, in_order}
use Rattle.vhdl_expand_rules.specs.Declarations.{generics, fixed_values, starts, object, ports, declared, declaration, declarations, variable, process_declaration, process_declarations, interface, association, associations}
use Rattle.vhdl_expand_rules.specs.Expansion.{sensitivity, process, instance, concurrent, concurrents, concurrent_turns, concurrents_turns, instance_of, expanded_design}
use Rattle.vhdl_expand_rules.specs.Tops.{top_interface}
use Rattle.vhdl_elab_rules.specs.Numbering.{numbered_design}
use Rattle.vhdl_elab_rules.specs.Wiring.{flat_net}
use Rattle.vhdl_elab_rules.specs.Elaboration.{netlist_of, elaborated_net}
use Rattle.rtl_definition_examples.specs.designs.Bodies.{ConditionsBecomeTests, ConditionsAreTold, NumbersBecomeConstants, DefaultsAreTaken}

pub tests : ConditionsBecomeTests
unfolding digits_of integer natural numbers_of integer_of decision turns declared_bounds kind_of size_of count_of places signal_elements variable_elements constant_values vector elements value test value_given choice statement statements statement_turns statements_turns names_elements prefixes_elements in_order generics fixed_values starts object ports declared declaration declarations variable process_declaration process_declarations interface association associations sensitivity process instance concurrent concurrents concurrent_turns concurrents_turns instance_of top_interface expanded_design numbered_design flat_net netlist_of elaborated_net
tests = record { plain = refl; enclosed = refl; turned = refl; indexed = refl; slice = refl; of_variable = refl; unlike = refl; edge = refl; integer_first = refl; decided = refl; lengths_differ = refl }

pub conditions : ConditionsAreTold
unfolding digits_of integer natural numbers_of integer_of decision turns declared_bounds kind_of size_of count_of places signal_elements variable_elements constant_values vector elements value test value_given choice statement statements statement_turns statements_turns names_elements prefixes_elements in_order generics fixed_values starts object ports declared declaration declarations variable process_declaration process_declarations interface association associations sensitivity process instance concurrent concurrents concurrent_turns concurrents_turns instance_of top_interface expanded_design numbered_design flat_net netlist_of elaborated_net
conditions = record { compared = refl; compared_first = refl; over_integers = refl; within = refl; outside = refl; lengths = refl; left_first = refl }

pub numbers : NumbersBecomeConstants
unfolding digits_of integer natural numbers_of integer_of decision turns declared_bounds kind_of size_of count_of places signal_elements variable_elements constant_values vector elements value test value_given choice statement statements statement_turns statements_turns names_elements prefixes_elements in_order generics fixed_values starts object ports declared declaration declarations variable process_declaration process_declarations interface association associations sensitivity process instance concurrent concurrents concurrent_turns concurrents_turns instance_of top_interface expanded_design numbered_design flat_net netlist_of elaborated_net
numbers = record { sum = refl; product = refl; negative = refl; negative_first = refl; encoded = refl; no_element = refl; no_number = refl; too_wide = refl; operand_first = refl; lengths = refl; joined_too_wide = refl; literal_too_wide = refl; of_variable = refl }

pub defaults : DefaultsAreTaken
unfolding digits_of integer natural numbers_of integer_of decision turns declared_bounds kind_of size_of count_of places signal_elements variable_elements constant_values vector elements value test value_given choice statement statements statement_turns statements_turns names_elements prefixes_elements in_order generics fixed_values starts object ports declared declaration declarations variable process_declaration process_declarations interface association associations sensitivity process instance concurrent concurrents concurrent_turns concurrents_turns instance_of top_interface expanded_design numbered_design flat_net netlist_of elaborated_net
defaults = record { generic = refl; set = refl; not_computed = refl; resolved = refl }
