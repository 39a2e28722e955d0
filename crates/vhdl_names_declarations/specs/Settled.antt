-- Names that stood unfinished in a region, once what they mean is known.
use Rattle.std.specs.Prelude.{ℕ, ◌+◌, List, ◌++◌, map, take, drop, Option, option_map}
use Rattle.vhdl_tree.specs.declared.operator.Direction.{Direction}
use Rattle.vhdl_names_rules.specs.Visibility as visibility
use Rattle.vhdl_names_rules.specs.Visibility.{Name, Meaning, Declared, DeclaredRange, numbered, ranged, global_if}
use Rattle.vhdl_names_rules.specs.Interfaces.{declared_names}
use Rattle.vhdl_names_sight.specs.declared.meaning.Entry.{Entry}
use Rattle.vhdl_names_sight.specs.Views.{entry_of}
use Rattle.vhdl_names_declarations.specs.declared.class.ObjectClass.{ObjectClass}
use Rattle.vhdl_names_declarations.specs.declared.class.ObjectClass.TheVariants as c
use Rattle.vhdl_names_declarations.specs.declared.counts.Counts.{Counts}
use Rattle.vhdl_names_declarations.specs.declared.region.Settled.{Settled}
use Rattle.vhdl_names_declarations.specs.Counts.{next_of}

-- what an object of a class and number is declared to be
abbrev pub class_view : ObjectClass → ℕ → Meaning
class_view c.Generic k = visibility.generic k
class_view c.BooleanGeneric k = visibility.boolean_generic k
class_view (c.Port mode type) k = visibility.port k mode type
class_view c.Integer k = visibility.integer_constant k
class_view c.Boolean k = visibility.boolean_constant k
class_view (c.Constant kind values) k = visibility.constant k kind (option_map (λ vs. vs.items) values)
class_view (c.Signal type) k = visibility.signal k type
class_view (c.Variable type) k = visibility.variable k type

abbrev pub range_from : Option Direction → ℕ → Option DeclaredRange
range_from direction k = option_map (λ d. record { number = k; direction = d }) direction

-- a name with so many of its declaration before it
abbrev pub settled_entry : Name → Settled → Counts → (before : ℕ) → Declared
settled_entry n s c before = record {
  name = n;
  meaning = class_view s.class (next_of c s.class + before);
  range = range_from s.direction (c.ranges + before);
  is_global = s.is_global;
}

-- names of one declaration, numbered on from these counts
abbrev pub settled_names : Settled → Counts → List Name → List Declared
settled_names s c ns =
    global_if s.is_global (ranged s.direction c.ranges (numbered (class_view s.class) (next_of c s.class) ns))

-- the declarations from one place to another are
abbrev pub settled_between : Settled → Counts → (first last : ℕ) → List Declared → List Declared
settled_between s c first last ds =
    take first ds ++ (settled_names s c (declared_names (drop first (take last ds))) ++ drop last ds)

-- those from a place on are
abbrev pub settled_from : Settled → Counts → (place : ℕ) → List Declared → List Declared
settled_from s c place ds = take place ds ++ settled_names s c (declared_names (drop place ds))

-- the declaration at this place is this one, of the same name
abbrev pub finished : Entry → (place : ℕ) → List Declared → List Declared
finished e place ds =
    take place ds ++ (map (λ n. entry_of n e) (take 1 (declared_names (drop place ds))) ++ drop (place + 1) ds)
