-- An architecture in the order in which the code comes to its parts.
use Rattle.std.specs.Prelude.{ℕ, List, Option, Some, None, Vec, map, set, option_map}
use Rattle.std.specs.Global.{Global}
use Rattle.vhdl_tree.specs.Tree as t
use Rattle.vhdl_tree.specs.Tree.{ContextItem, DesignUnit, LibraryUnit}
use Rattle.vhdl_names_rules.specs.units.Units as u
use Rattle.vhdl_names_rules.specs.declared.fault.NameProblem.TheVariants.{WrongKind}
use Rattle.vhdl_names_rules.specs.Rules.{◌>>=◌, ◌>>◌, rule, if_any}
use Rattle.vhdl_names_rules.specs.Visibility.{Declared, Sight, ends, with_declared}
use Rattle.vhdl_names_rules.specs.Declarations.{in_order}
use Rattle.vhdl_names_rules.specs.Interfaces.{EntityView, entity_named}
use Rattle.vhdl_names_rules.specs.Concurrent.{concurrents, concurrent_labels}
use Rattle.vhdl_names_rules.specs.Files.{declaration, labelled}
use Rattle.vhdl_names_rules.specs.Files as rules
use Rattle.vhdl_names_units.specs.declared.unit.Architecture.{Architecture}
use Rattle.vhdl_names_units.specs.views.Units.{architecture_view}
use Rattle.vhdl_names_declarations.specs.Entered.{entering, more}
use Rattle.vhdl_names_interfaces.specs.Views.{sight_behind}
use Rattle.vhdl_names.specs.Views.{Keyed}
use Rattle.vhdl_names.specs.steps.Outlines.{described_of}

-- with a region that has grown
abbrev pub with_region : Sight → List Declared → Sight
with_region sight ds = record sight { region = ds }

-- the labels and statements, behind these declarations
abbrev pub body : List EntityView → Sight → List u.Declaration → t.Architecture → Option u.Architecture
body all sight ds a = do
  region ← more sight.region (labelled (concurrent_labels (t.concurrents_of a.statements)))
  statements ← concurrents all (with_region sight region) (t.concurrents_of a.statements)
  rule WrongKind (ends a.name.text a.end_name)
  Some (record { declarations = ds; statements = statements })

-- the declarations, and what follows them
abbrev pub within : List EntityView → Sight → t.Architecture → Option u.Architecture
within all sight a = do
  w ← entering (in_order with_declared (declaration all)) sight a.declarations
  body all w.0 w.1 a

abbrev pub architecture : List EntityView → EntityView → List ContextItem → t.Architecture → Option u.Architecture
architecture all e items a = do
  sight ← sight_behind e items
  within all sight a

-- an entity's own architecture
abbrev pub own : List EntityView → List Keyed → EntityView → Option (Option u.Architecture)
own all as' e = if_any (λ p. rules.architecture all e p.0 p.1) (described_of e.name as')

abbrev pub options_view : Vec (Option Architecture) Global → List (Option u.Architecture)
options_view v = map (option_map architecture_view) v.items

-- with one more architecture, as that of its entity
abbrev pub with_described : List EntityView → List (Option u.Architecture)
    → List ContextItem × t.Architecture → Option (List (Option u.Architecture))
with_described es os a = placed (entity_named es a.1.entity.text)
  where
    placed : Option (ℕ × EntityView) → Option (List (Option u.Architecture))
    placed None = Some os
    placed (Some (k, e)) = rules.architecture es e a.0 a.1 >>= λ x. Some (set os k (Some x))

-- with one more unit, which may be an architecture
abbrev pub with_unit : List EntityView → List (Option u.Architecture)
    → DesignUnit → Option (List (Option u.Architecture))
with_unit es os d = of_unit d.context d.unit
  where
    of_unit : List ContextItem → LibraryUnit → Option (List (Option u.Architecture))
    of_unit items (t.LibraryUnit.entity e) = Some os
    of_unit items (t.architecture a) = with_described es os (items, a)
