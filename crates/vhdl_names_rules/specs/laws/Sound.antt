-- Laws of what elaboration may take for granted: what instances name and associate is there, and no in port
-- is assigned.
use Rattle.std.specs.Prelude.{◌≡◌, ℕ, ◌⊎◌, List, length, slice_get, Option, Some, None}
use Rattle.vhdl_lexer.specs.declared.language.Language.{Language}
use Rattle.vhdl_tree.specs.declared.declaration.Mode.TheVariants.{Out}
use Rattle.vhdl_tree.specs.Tree as t
use Rattle.vhdl_tree.specs.Tree.{File, Ident, Expr}
use Rattle.vhdl_names_rules.specs.declared.kind.ObjectType.{ObjectType}
use Rattle.vhdl_names_rules.specs.units.Expressions as e
use Rattle.vhdl_names_rules.specs.units.Expressions.{Signal, SignalPart}
use Rattle.vhdl_names_rules.specs.units.Statements as s
use Rattle.vhdl_names_rules.specs.units.Statements.{Given, Statement}
use Rattle.vhdl_names_rules.specs.units.Units as u
use Rattle.vhdl_names_rules.specs.units.Units.{Units}
use Rattle.vhdl_names_rules.specs.Rules.{each}
use Rattle.vhdl_names_rules.specs.Visibility as visibility
use Rattle.vhdl_names_rules.specs.Visibility.{Meaning, Sight, meaning}
use Rattle.vhdl_names_rules.specs.Interfaces.{EntityView}
use Rattle.vhdl_names_rules.specs.Statements.{Target, signal_target}
use Rattle.vhdl_names_rules.specs.Instances.{Formal, port_actual, as_name, instance}
use Rattle.vhdl_names_rules.specs.Files.{entities_of, viewed, units_of}

-- a name of this meaning is an out port, or a signal, of this number
abbrev pub IsDriven : Option Meaning → Signal → Type 0
IsDriven o x =
    ((k : ℕ) × (type : ObjectType) × (o ≡ Some (visibility.port k Out type)) × (x ≡ e.port k))
    ⊎ ((k : ℕ) × (type : ObjectType) × (o ≡ Some (visibility.signal k type)) × (x ≡ e.Signal.signal k))

-- the signal that an assignment gives a value, if it is one to a signal
abbrev pub assigned_by : Statement → Option Signal
assigned_by (s.assign p g) = Some p.signal
assigned_by (s.assign_in at x c g) = Some x
assigned_by _ = None

-- No target is an in port.
abbrev pub TargetsAreDriven : Type 0
TargetsAreDriven = (sight : Sight) (n : t.Name) (x : Target) (g : Given) → signal_target sight n ≡ Some x
    → (y : Signal) × (assigned_by (x.assigned g) ≡ Some y) × IsDriven (meaning sight n.identifier.text) y

-- Nor is the actual of an out port.
abbrev pub ActualsAreDriven : Type 0
ActualsAreDriven =
    (sight : Sight) (f : Formal) (n : t.Name) (actual : Expr) (p : SignalPart) → f.mode ≡ Out → as_name actual ≡ Some n
    → port_actual sight f actual ≡ Some p → IsDriven (meaning sight n.identifier.text) p.signal

-- An instance is of a unit of the file, and has an entry for each of its generics and ports.
abbrev pub InstancesFitUnits : Type 0
InstancesFitUnits =
    (language : Language) (f : File) (units : Units) (entities : List EntityView)
    (sight : Sight) (label : Ident) (i : t.Instance) (x : u.Instance)
    → units_of language f ≡ Some units → each (viewed language f.units) (entities_of f.units) ≡ Some entities
    → instance entities sight label i ≡ Some x
    → (unit : u.Entity) × (slice_get units x.unit ≡ Some unit)
    × (length x.generics ≡ length unit.generics) × (length x.ports ≡ length unit.ports)
