-- The entities and architectures of a file, unit by unit.
use Rattle.std.specs.Prelude.{not, List, [], ◌∷◌, ◌++◌, map, find, Option, Some, option_map, bytes_eq}
use Rattle.vhdl_tree.specs.Tree as t
use Rattle.vhdl_tree.specs.Tree.{ContextItem, DesignUnit, LibraryUnit}
use Rattle.vhdl_names_rules.specs.declared.fault.NameProblem.TheVariants.{Undeclared, Twice, SecondArchitecture}
use Rattle.vhdl_names_rules.specs.Rules.{◌>>=◌, ◌>>◌, rule, given_that}
use Rattle.vhdl_names_rules.specs.Visibility.{Name, is_among, are_distinct}
use Rattle.vhdl_names_rules.specs.Files.{entity_names, described_names, architectures_of, stand_after}
use Rattle.vhdl_names_units.specs.Once.{one_name}
use Rattle.vhdl_names.specs.Views.{Keyed, OutlineView}

abbrev pub keyed : List ContextItem × t.Architecture → Keyed
keyed a = record { name = a.1.entity.text; unit = a }

abbrev pub names_of : List Keyed → List Name
names_of as' = map (λ (k : Keyed). k.name) as'

-- one more architecture, of an entity that none before it is of
abbrev pub one_described : List Keyed → List ContextItem × t.Architecture → Option (List Keyed)
one_described as' a =
    given_that SecondArchitecture (not (is_among a.1.entity.text (names_of as'))) (as' ++ keyed a ∷ [])

abbrev pub with_entity : OutlineView → t.Entity → Option OutlineView
with_entity o e = one_name o.entities e.name.text >>= λ ns. Some (record o { entities = ns })

abbrev pub with_architecture : OutlineView → List ContextItem → t.Architecture → Option OutlineView
with_architecture o items a = do
  rule Undeclared (is_among a.entity.text o.entities)
  as' ← one_described o.architectures (items, a)
  Some (record o { architectures = as' })

abbrev pub with_unit : OutlineView → DesignUnit → Option OutlineView
with_unit o d = of_unit d.context d.unit
  where
    of_unit : List ContextItem → LibraryUnit → Option OutlineView
    of_unit items (t.LibraryUnit.entity e) = with_entity o e
    of_unit items (t.architecture a) = with_architecture o items a

abbrev pub no_outline : OutlineView
no_outline = record { entities = []; architectures = [] }

-- the whole, where names are distinct and architectures stand after their entities
abbrev pub outline_of : List DesignUnit → OutlineView
outline_of ds = record { entities = entity_names ds; architectures = map keyed (architectures_of ds) }

abbrev pub outlined : List DesignUnit → Option OutlineView
outlined ds = do
  rule Twice (are_distinct (entity_names ds))
  rule SecondArchitecture (are_distinct (described_names ds))
  rule Undeclared (stand_after ds)
  Some (outline_of ds)

-- the architecture of the entity of a name
abbrev pub described_of : Name → List Keyed → Option (List ContextItem × t.Architecture)
described_of n as' = option_map (λ (k : Keyed). k.unit) (find (λ (k : Keyed). bytes_eq n k.name) as')
