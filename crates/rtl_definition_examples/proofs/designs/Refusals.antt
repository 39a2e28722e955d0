-- The refusals of specs/designs/Refusals.antt compute.
use Rattle.std.proofs.Common.{refl}
use Rattle.vhdl_values.specs.Numbers.{digits_of}
use Rattle.vhdl_expand_rules.specs.Integers.{integer, natural, numbers_of, integer_of, decision, turns}
use Rattle.vhdl_expand_rules.specs.Kinds.{declared_bounds, kind_of, size_of, count_of, places}
use Rattle.vhdl_expand_rules.specs.Site.{signal_elements, variable_elements, constant_values}
use Rattle.vhdl_expand_rules.specs.Expressions.{vector, elements, value, test}
use Rattle.vhdl_expand_rules.specs.Statements.{value_given, choice, statement, statements, statement_turns, statements_turns}
use Rattle.vhdl_expand_rules.specs.Prefixes.{names_elements, prefixes_elements, in_order}
use Rattle.vhdl_expand_rules.specs.Declarations.{generics, fixed_values, starts, object, ports, declared, declaration, declarations, variable, process_declaration, process_declarations, interface, association, associations}
use Rattle.vhdl_expand_rules.specs.Expansion.{sensitivity, process, instance, concurrent, concurrents, concurrent_turns, concurrents_turns, instance_of, expanded_design}
use Rattle.vhdl_expand_rules.specs.Tops.{top_interface}
use Rattle.vhdl_elab_rules.specs.Numbering.{numbered_design}
use Rattle.vhdl_elab_rules.specs.Wiring.{flat_net}
use Rattle.vhdl_elab_rules.specs.Elaboration.{netlist_of, elaborated_net}
use Rattle.rtl_definition_examples.specs.designs.Refusals.{IntegersHaveValues, TopsAreThere, LengthsAgree, FirstRulesAreTold, TurnsAreWithin}
use Rattle.rtl_definition_examples.specs.designs.Refusals.{ActualsFit, SourcesAreCounted, VariablesAreNumbered, VariablesAreTold}

pub integers : IntegersHaveValues
unfolding digits_of integer natural numbers_of integer_of decision turns declared_bounds kind_of size_of count_of places signal_elements variable_elements constant_values vector elements value test value_given choice statement statements statement_turns statements_turns names_elements prefixes_elements in_order generics fixed_values starts object ports declared declaration declarations variable process_declaration process_declarations interface association associations sensitivity process instance concurrent concurrents concurrent_turns concurrents_turns instance_of top_interface expanded_design numbered_design flat_net netlist_of elaborated_net
integers = record { divided = refl; remainder = refl; modulus = refl; modulus_below = refl; by_zero = refl; too_great = refl; alone = refl; below_sign = refl; sign_and_operator = refl; first_operator = refl; outer_operator = refl }

pub tops : TopsAreThere
unfolding digits_of integer natural numbers_of integer_of decision turns declared_bounds kind_of size_of count_of places signal_elements variable_elements constant_values vector elements value test value_given choice statement statements statement_turns statements_turns names_elements prefixes_elements in_order generics fixed_values starts object ports declared declaration declarations variable process_declaration process_declarations interface association associations sensitivity process instance concurrent concurrents concurrent_turns concurrents_turns instance_of top_interface expanded_design numbered_design flat_net netlist_of elaborated_net
tops = record { no_entity = refl; no_architecture = refl; no_generic = refl; neither = refl; second = refl; second_range = refl; generic_range = refl; generic_without_value = refl; generic_too_great = refl; set = refl; set_range = refl; set_unknown = refl }

pub lengths : LengthsAgree
unfolding digits_of integer natural numbers_of integer_of decision turns declared_bounds kind_of size_of count_of places signal_elements variable_elements constant_values vector elements value test value_given choice statement statements statement_turns statements_turns names_elements prefixes_elements in_order generics fixed_values starts object ports declared declaration declarations variable process_declaration process_declarations interface association associations sensitivity process instance concurrent concurrents concurrent_turns concurrents_turns instance_of top_interface expanded_design numbered_design flat_net netlist_of elaborated_net
lengths = record { short = refl; short_under_false = refl; null_range = refl; negative_bound = refl; too_wide = refl; both_too_wide = refl; second_too_wide = refl; against_direction = refl; outside = refl; negative_index = refl; index_without_value = refl; operands = refl; sum = refl; choice = refl }

pub first_rules : FirstRulesAreTold
unfolding digits_of integer natural numbers_of integer_of decision turns declared_bounds kind_of size_of count_of places signal_elements variable_elements constant_values vector elements value test value_given choice statement statements statement_turns statements_turns names_elements prefixes_elements in_order generics fixed_values starts object ports declared declaration declarations variable process_declaration process_declarations interface association associations sensitivity process instance concurrent concurrents concurrent_turns concurrents_turns instance_of top_interface expanded_design numbered_design flat_net netlist_of elaborated_net
first_rules = record { target = refl; before_list = refl; list = refl; turns = refl; condition = refl; value = refl }

pub turns_within : TurnsAreWithin
unfolding digits_of integer natural numbers_of integer_of decision turns declared_bounds kind_of size_of count_of places signal_elements variable_elements constant_values vector elements value test value_given choice statement statements statement_turns statements_turns names_elements prefixes_elements in_order generics fixed_values starts object ports declared declaration declarations variable process_declaration process_declarations interface association associations sensitivity process instance concurrent concurrents concurrent_turns concurrents_turns instance_of top_interface expanded_design numbered_design flat_net netlist_of elaborated_net
turns_within = record { outside = refl; too_many = refl; without_bound = refl; too_many_generated = refl; none = refl }

pub actuals : ActualsFit
unfolding digits_of integer natural numbers_of integer_of decision turns declared_bounds kind_of size_of count_of places signal_elements variable_elements constant_values vector elements value test value_given choice statement statements statement_turns statements_turns names_elements prefixes_elements in_order generics fixed_values starts object ports declared declaration declarations variable process_declaration process_declarations interface association associations sensitivity process instance concurrent concurrents concurrent_turns concurrents_turns instance_of top_interface expanded_design numbered_design flat_net netlist_of elaborated_net
actuals = record { length = refl; second_length = refl; formals_in_order = refl; unassociated = refl; no_architecture = refl; generic = refl }

pub sources : SourcesAreCounted
unfolding digits_of integer natural numbers_of integer_of decision turns declared_bounds kind_of size_of count_of places signal_elements variable_elements constant_values vector elements value test value_given choice statement statements statement_turns statements_turns names_elements prefixes_elements in_order generics fixed_values starts object ports declared declaration declarations variable process_declaration process_declarations interface association associations sensitivity process instance concurrent concurrents concurrent_turns concurrents_turns instance_of top_interface expanded_design numbered_design flat_net netlist_of elaborated_net
sources = record { two_unresolved = refl; two_drivers = refl; two_drivers_of_second = refl; two_drivers_of_both = refl; read_of_shared = refl; in_list = refl; by_in_port = refl; in_instance = refl; once = refl; too_deep = refl }

pub variables : VariablesAreNumbered
unfolding digits_of integer natural numbers_of integer_of decision turns declared_bounds kind_of size_of count_of places signal_elements variable_elements constant_values vector elements value test value_given choice statement statements statement_turns statements_turns names_elements prefixes_elements in_order generics fixed_values starts object ports declared declaration declarations variable process_declaration process_declarations interface association associations sensitivity process instance concurrent concurrents concurrent_turns concurrents_turns instance_of top_interface expanded_design numbered_design flat_net netlist_of elaborated_net
variables = record { has = refl }

pub variables_told : VariablesAreTold
unfolding digits_of integer natural numbers_of integer_of decision turns declared_bounds kind_of size_of count_of places signal_elements variable_elements constant_values vector elements value test value_given choice statement statements statement_turns statements_turns names_elements prefixes_elements in_order generics fixed_values starts object ports declared declaration declarations variable process_declaration process_declarations interface association associations sensitivity process instance concurrent concurrents concurrent_turns concurrents_turns instance_of top_interface expanded_design numbered_design flat_net netlist_of elaborated_net
variables_told = record { first = refl; second = refl; value = refl; default = refl; behind = refl }
