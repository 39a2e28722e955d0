-- The small trees of specs/rules/Statements.antt compute.
use Rattle.std.proofs.Common.{refl}
use Rattle.vhdl_names_rules.specs.Expressions.{typed, static, static_range, condition, value_given, value_assigned}
use Rattle.vhdl_names_rules.specs.Subtypes.{subtype, object_subtype}
use Rattle.vhdl_names_rules.specs.Declarations.{variables}
use Rattle.vhdl_names_rules.specs.Statements.{signal, signal_target, variable_target, statement, statements, alternatives, conditionals, otherwise}
use Rattle.vhdl_names_rules.specs.Concurrent.{assignment, selected, process, concurrent, concurrents}
use Rattle.rtl_definition_examples.specs.rules.Statements.{TargetsAreSignals, ProcessesAreRegions, TurnsHaveParameters, ConditionsBecomeIfs}

pub targets_are_signals : TargetsAreSignals
unfolding typed static condition value_given value_assigned subtype object_subtype variables signal signal_target variable_target statement statements assignment process concurrent concurrents
targets_are_signals = record { output = refl; input = refl; signal_as_variable = refl; constant = refl; vector = refl; enumeration = refl }

pub processes_are_regions : ProcessesAreRegions
unfolding typed static condition value_given value_assigned subtype object_subtype variables signal signal_target variable_target statement statements assignment process concurrent concurrents
processes_are_regions = record { hiding = refl; no_variable = refl; twice = refl; no_list = refl; on_constant = refl; labels = refl; end_label = refl }

pub turns_have_parameters : TurnsHaveParameters
unfolding typed static static_range condition value_given value_assigned subtype object_subtype variables signal signal_target variable_target statement statements assignment process concurrent concurrents
turns_have_parameters = record { for_loop = refl; generate_for = refl; undeclared = refl; static_condition = refl; signal_condition = refl }

pub conditions_become_ifs : ConditionsBecomeIfs
unfolding typed static condition value_given value_assigned subtype object_subtype variables signal signal_target variable_target statement statements alternatives conditionals otherwise assignment selected process concurrent concurrents
conditions_become_ifs = record { without_else = refl; selecting = refl; sequential_if = refl; sequential_case = refl; vector = refl }
