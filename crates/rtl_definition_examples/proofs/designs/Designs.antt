-- The netlists of specs/designs/Designs.antt compute.
use Rattle.std.proofs.Common.{refl, arith}
use Rattle.std.proofs.lemmas.Fmt.{decimal_digit}
use Rattle.vhdl_values.specs.Numbers.{digits_of}
use Rattle.vhdl_expand_rules.specs.Integers.{integer, natural, numbers_of, integer_of, decision, turns}
use Rattle.vhdl_expand_rules.specs.Kinds.{declared_bounds, kind_of, size_of, count_of, places}
use Rattle.vhdl_expand_rules.specs.Site.{signal_elements, variable_elements, constant_values}
use Rattle.vhdl_expand_rules.specs.Expressions.{vector, elements, value, test}
use Rattle.vhdl_expand_rules.specs.Statements.{value_given, choice, statement, statements, statement_turns, statements_turns}
use Rattle.vhdl_expand_rules.specs.Prefixes.{names_elements, prefixes_elements, in_order}
use Rattle.vhdl_expand_rules.specs.Declarations.{generics, fixed_values, starts, object, ports, declared, declaration, declarations, variable, process_declaration, process_declarations, interface, association, associations}
use Rattle.vhdl_expand_rules.specs.Expansion.{sensitivity, process, instance, concurrent, concurrents, concurrent_turns, concurrents_turns, instance_of, expanded_design}
use Rattle.vhdl_expand_rules.specs.Tops.{top_interface}
use Rattle.vhdl_elab_rules.specs.Numbering.{numbered_design}
use Rattle.vhdl_elab_rules.specs.Wiring.{flat_net}
use Rattle.vhdl_elab_rules.specs.Elaboration.{netlist_of, elaborated_net}
use Rattle.rtl_definition_examples.specs.designs.Designs.{CounterHasItsNet, InvertersAreJoined, IdlePortsHoldTheirDefaults, LoopsAreUnrolled}

pub idle_ports : IdlePortsHoldTheirDefaults
unfolding digits_of integer natural numbers_of integer_of decision turns declared_bounds kind_of size_of count_of places signal_elements variable_elements constant_values vector elements value test value_given choice statement statements statement_turns statements_turns names_elements prefixes_elements in_order generics fixed_values starts object ports declared declaration declarations variable process_declaration process_declarations interface association associations sensitivity process instance concurrent concurrents concurrent_turns concurrents_turns instance_of top_interface expanded_design numbered_design flat_net netlist_of elaborated_net
idle_ports = record { net = refl }

pub counter : CounterHasItsNet
unfolding digits_of integer natural numbers_of integer_of decision turns declared_bounds kind_of size_of count_of places signal_elements variable_elements constant_values vector elements value test value_given choice statement statements statement_turns statements_turns names_elements prefixes_elements in_order generics fixed_values starts object ports declared declaration declarations variable process_declaration process_declarations interface association associations sensitivity process instance concurrent concurrents concurrent_turns concurrents_turns instance_of top_interface expanded_design numbered_design flat_net netlist_of elaborated_net
counter = record { net = rw (decimal_digit 0 (omega arith), decimal_digit 1 (omega arith)) refl; processes = refl }

pub inverters : InvertersAreJoined
unfolding digits_of integer natural numbers_of integer_of decision turns declared_bounds kind_of size_of count_of places signal_elements variable_elements constant_values vector elements value test value_given choice statement statements statement_turns statements_turns names_elements prefixes_elements in_order generics fixed_values starts object ports declared declaration declarations variable process_declaration process_declarations interface association associations sensitivity process instance concurrent concurrents concurrent_turns concurrents_turns instance_of top_interface expanded_design numbered_design flat_net netlist_of elaborated_net
inverters = record { net = rw (decimal_digit 0 (omega arith), decimal_digit 1 (omega arith)) refl; sources = refl }

pub loops : LoopsAreUnrolled
unfolding digits_of integer natural numbers_of integer_of decision turns declared_bounds kind_of size_of count_of places signal_elements variable_elements constant_values vector elements value test value_given choice statement statements statement_turns statements_turns names_elements prefixes_elements in_order generics fixed_values starts object ports declared declaration declarations variable process_declaration process_declarations interface association associations sensitivity process instance concurrent concurrents concurrent_turns concurrents_turns instance_of top_interface expanded_design numbered_design flat_net netlist_of elaborated_net
loops = record { drives = refl; wakes = refl }
