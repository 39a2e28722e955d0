-- The small trees of specs/rules/Files.antt compute.
use Rattle.std.proofs.Common.{refl}
use Rattle.vhdl_tree.specs.Lexeme.{same_kind}
use Rattle.vhdl_names_rules.specs.Expressions.{typed, static, value_given, value_assigned}
use Rattle.vhdl_names_rules.specs.Subtypes.{subtype, object_subtype}
use Rattle.vhdl_names_rules.specs.Declarations.{port}
use Rattle.vhdl_names_rules.specs.Statements.{signal, signal_target}
use Rattle.vhdl_names_rules.specs.Interfaces.{interface, entity, component}
use Rattle.vhdl_names_rules.specs.Instances.{associated, port_actual, instantiated, instance}
use Rattle.vhdl_names_rules.specs.Concurrent.{assignment, concurrent, concurrents}
use Rattle.vhdl_names_rules.specs.Files.{architecture, unit, units_of}
use Rattle.rtl_definition_examples.specs.rules.Files.{UnitsAreOnce, FormalsAreAssociated, ContextsBringNames}

pub units_are_once : UnitsAreOnce
unfolding same_kind typed static value_given value_assigned subtype object_subtype port signal signal_target interface entity component associated port_actual instantiated instance assignment concurrent concurrents architecture unit units_of
units_are_once = record { buffer = refl; empty = refl; entity_twice = refl; second_architecture = refl; architecture_first = refl; no_entity = refl; label_of_port = refl; label_twice = refl }

pub formals_are_associated : FormalsAreAssociated
unfolding same_kind typed static value_given value_assigned subtype object_subtype port signal signal_target interface entity component associated port_actual instantiated instance assignment concurrent concurrents architecture unit units_of
formals_are_associated = record { mixed = refl; placed = refl; named_first = refl; twice = refl; unknown = refl; too_many = refl; out_on_input = refl; enclosed_actual = refl; expression = refl; of_component = refl; other_component = refl; no_component = refl }

pub contexts_bring_names : ContextsBringNames
unfolding same_kind typed static value_given value_assigned subtype object_subtype port signal signal_target interface entity component associated port_actual instantiated instance assignment concurrent concurrents architecture unit units_of
contexts_bring_names = record { nothing = refl; no_library = refl; other_library = refl; other_package = refl }
